-- What is noted in an index.
use Rattle.std.proofs.Common.{ℕ, zero, suc, ◌+◌, ◌<◌, ◌≤◌, Bool, true, false, cond, ◌||◌, List, [], ◌∷◌, ◌++◌, length, ◌≡◌, Option, Some, None, refl, sym, ap, ◌∙◌, subst, arith, rules}
use Rattle.std.specs.Prelude.{Result, Ok, Err, OnOk, is_ok}
use Rattle.std.specs.Cmp.{IsEquivalence}
use Rattle.std.specs.List.{AllByRecursion, last_or, list_any}
use Rattle.std.specs.Map.{lookup}
use Rattle.std.specs.Option.{unwrap_or, option_map}
use Rattle.std.proofs.lemmas.Bool.{false≢true}
use Rattle.std.proofs.lemmas.Map.Made.{lookup-map_values}
use Rattle.etp_values.proofs.BoolLemmas.{by_test}
use Rattle.etp_values.proofs.EachLemmas.{all-push, all-weaker}
use Rattle.entry_index.specs.Chains.{chain, last_of}
use Rattle.entry_index.specs.Index.{ends_at, noted, noted_all, number_in, places_in, with_place, KeepsChains, KeepsIndex}
use Rattle.entry_index.proofs.ChainLemmas.{chain-push, chain-last, last-push, length-push}

-- ---- the places of a key are the chain of its number

chain-or : (chains : List (List ℕ)) (o : Option ℕ) → unwrap_or (option_map (chain chains) o) [] ≡ chain chains (unwrap_or o 0)
chain-or chains None = refl
chain-or chains (Some n) = refl

pub places-are : {K : Type 0} (same : K → K → Bool) (latest : List (K × ℕ)) (chains : List (List ℕ)) (key : K)
    → unwrap_or (lookup (same key) (places_in latest chains)) [] ≡ chain chains (number_in same latest key)
places-are same latest chains key = ap (λ o. unwrap_or o []) (lookup-map_values (chain chains) (same key) latest) ∙ chain-or chains (lookup (same key) latest)

-- ---- what holds for all places in chains

pub below-at : (P : ℕ → Type 0) (chains : List (List ℕ)) (n : ℕ) → AllByRecursion (AllByRecursion P) chains → AllByRecursion P (chain chains n)
below-at P chains zero all = tt
below-at P [] (suc n) all = tt
below-at P (c ∷ cs) (suc zero) all = all.0
below-at P (c ∷ cs) (suc (suc n)) all = below-at P cs (suc n) all.1

-- ---- a key is noted

with-ended : (place : ℕ) (ps : List ℕ) → ends_at (last_of ps) place ≡ true → with_place place ps ≡ ps
with-ended place ps h = ap (λ b. cond b ps (ps ++ place ∷ [])) h

with-further : (place : ℕ) (ps : List ℕ) → ends_at (last_of ps) place ≡ false → with_place place ps ≡ ps ++ place ∷ []
with-further place ps h = ap (λ b. cond b ps (ps ++ place ∷ [])) h

module _ {K : Type 0} (same : K → K → Bool) (laws : IsEquivalence same) where
  number-same : (latest : List (K × ℕ)) (k q : K) → same k q ≡ true → number_in same latest q ≡ number_in same latest k
  number-same latest k q h = λ i. unwrap_or (lookup (λ z. sym (laws.congr k q z h) i) latest) 0

  -- it was noted there already
  pub noted-there : (latest : List (K × ℕ)) (chains : List (List ℕ)) (place : ℕ) (k : K) → ends_at (last_of (chain chains (number_in same latest k))) place ≡ true
      → (q : K) → chain chains (number_in same latest q) ≡ noted same place q (chain chains (number_in same latest q)) k
  noted-there latest chains place k ended q =
      let ps = chain chains (number_in same latest q) in
      by_test (same q k)
      (λ h. sym (ap (λ b. cond b (with_place place ps) ps) h
      ∙ with-ended place ps (ap (λ n. ends_at (last_of (chain chains n)) place) (number-same latest k q (laws.symm k q ∙ h)) ∙ ended)))
      (λ h. sym (ap (λ b. cond b (with_place place ps) ps) h))

  -- its number after it was given one
  number-put : (latest new : List (K × ℕ)) (n : ℕ) (k q : K) → lookup (same q) new ≡ cond (same k q) (Some n) (lookup (same q) latest)
      → number_in same new q ≡ cond (same k q) n (number_in same latest q)
  number-put latest new n k q put =
      ap (λ o. unwrap_or o 0) put
      ∙ by_test (same k q)
      (λ h. ap (λ b. unwrap_or (cond b (Some n) (lookup (same q) latest)) 0) h ∙ sym (ap (λ b. cond b n (number_in same latest q)) h))
      (λ h. ap (λ b. unwrap_or (cond b (Some n) (lookup (same q) latest)) 0) h ∙ sym (ap (λ b. cond b n (number_in same latest q)) h))

  -- it is noted there now
  pub noted-now : (latest new : List (K × ℕ)) (chains more : List (List ℕ)) (place n : ℕ) (k : K)
      → KeepsChains same latest chains place
      → ends_at (last_of (chain chains (number_in same latest k))) place ≡ false
      → more ≡ chains ++ (chain chains (number_in same latest k) ++ place ∷ []) ∷ []
      → n ≡ length more
      → ((q : K) → lookup (same q) new ≡ cond (same k q) (Some n) (lookup (same q) latest))
      → (q : K) → chain more (number_in same new q) ≡ noted same place q (chain chains (number_in same latest q)) k
  noted-now latest new chains more place n k keeps further pushed is put q =
      let before = chain chains (number_in same latest k) in
      let ps = chain chains (number_in same latest q) in
      let number : n ≡ suc (length chains) = is ∙ ap length pushed ∙ length-push chains (before ++ place ∷ []) in
      by_test (same q k)
      (λ h.
      let turned : same k q ≡ true = laws.symm k q ∙ h in
      let own : ps ≡ before = ap (chain chains) (number-same latest k q turned) in
      let here : number_in same new q ≡ suc (length chains) = number-put latest new n k q (put q) ∙ ap (λ b. cond b n (number_in same latest q)) turned ∙ number in
      let got : chain more (number_in same new q) ≡ before ++ place ∷ [] = (λ j. chain (pushed j) (here j)) ∙ chain-last chains (before ++ place ∷ []) in
      got ∙ sym (ap (λ b. cond b (with_place place ps) ps) h ∙ ap (with_place place) own ∙ with-further place before further))
      (λ h.
      let turned : same k q ≡ false = laws.symm k q ∙ h in
      let here : number_in same new q ≡ number_in same latest q = number-put latest new n k q (put q) ∙ ap (λ b. cond b n (number_in same latest q)) turned in
      (λ j. chain (pushed j) (here j)) ∙ chain-push chains (before ++ place ∷ []) (number_in same latest q) (keeps.within q) ∙ sym (ap (λ b. cond b (with_place place ps) ps) h))

  pub keeps-now : (latest new : List (K × ℕ)) (chains more : List (List ℕ)) (place n : ℕ) (k : K)
      → KeepsChains same latest chains place
      → more ≡ chains ++ (chain chains (number_in same latest k) ++ place ∷ []) ∷ []
      → n ≡ length more
      → ((q : K) → lookup (same q) new ≡ cond (same k q) (Some n) (lookup (same q) latest))
      → KeepsChains same new more place
  keeps-now latest new chains more place n k keeps pushed is put =
      let before = chain chains (number_in same latest k) in
      let long : length more ≡ suc (length chains) = ap length pushed ∙ length-push chains (before ++ place ∷ []) in
      let grown = all-push (λ p. p ≤ place) before place (below-at (λ p. p ≤ place) chains (number_in same latest k) keeps.below) (omega arith) in
      record {
        within = λ q. by_test (same k q)
            (λ h. omega (arith, number-put latest new n k q (put q) ∙ ap (λ b. cond b n (number_in same latest q)) h, is))
            (λ h. omega (arith, number-put latest new n k q (put q) ∙ ap (λ b. cond b n (number_in same latest q)) h, keeps.within q, long));
        below = subst (AllByRecursion (AllByRecursion (λ p. p ≤ place))) (sym pushed) (all-push (AllByRecursion (λ p. p ≤ place)) chains (before ++ place ∷ []) keeps.below grown);
      }

-- ---- the keys of an entry

ended-push : (place : ℕ) (ps : List ℕ) → ends_at (last_of (ps ++ place ∷ [])) place ≡ true
ended-push place ps = ap (λ o. ends_at o place) (last-push ps place None) ∙ search (arith, rules)

last-before : (place : ℕ) (ps : List ℕ) (o : Option ℕ) → AllByRecursion (λ p. p < place) ps → ends_at o place ≡ false → ends_at (last_or o ps) place ≡ false
last-before place [] o all h = h
last-before place (p ∷ ps) o all h =
    let early : p < place = all.0 in
    last-before place ps (Some p) all.1 (search (arith, rules))

module _ {K : Type 0} (same : K → K → Bool) where
  noted-stays : (place : ℕ) (q : K) (ps : List ℕ) (keys : List K) → ends_at (last_of ps) place ≡ true → noted_all same place q ps keys ≡ ps
  noted-stays place q ps [] h = refl
  noted-stays place q ps (k ∷ ks) h =
      let stays : noted same place q ps k ≡ ps = by_test (same q k)
      (λ b. ap (λ t. cond t (with_place place ps) ps) b ∙ with-ended place ps h)
      (λ b. ap (λ t. cond t (with_place place ps) ps) b) in
      ap (λ l. noted_all same place q l ks) stays ∙ noted-stays place q ps ks h

  pub noted-fresh : (place : ℕ) (q : K) (ps : List ℕ) (keys : List K) → AllByRecursion (λ p. p < place) ps
      → noted_all same place q ps keys ≡ cond (list_any (same q) keys) (ps ++ place ∷ []) ps
  noted-fresh place q ps [] all = refl
  noted-fresh place q ps (k ∷ ks) all =
      by_test (same q k)
      (λ h.
      ap (λ l. noted_all same place q l ks) (ap (λ b. cond b (with_place place ps) ps) h ∙ with-further place ps (last-before place ps None all refl))
      ∙ noted-stays place q (ps ++ place ∷ []) ks (ended-push place ps)
      ∙ sym (ap (λ b. cond (b || list_any (same q) ks) (ps ++ place ∷ []) ps) h))
      (λ h.
      ap (λ l. noted_all same place q l ks) (ap (λ b. cond b (with_place place ps) ps) h)
      ∙ noted-fresh place q ps ks all
      ∙ sym (ap (λ b. cond (b || list_any (same q) ks) (ps ++ place ∷ []) ps) h))

  -- ---- a place past all places

  pub keeps-at : (latest : List (K × ℕ)) (chains : List (List ℕ)) (past place : ℕ) → KeepsIndex same latest chains past → past ≤ place → KeepsChains same latest chains place
  keeps-at latest chains past place keeps h = record {
    within = keeps.within;
    below = all-weaker (AllByRecursion (λ p. p < past)) (AllByRecursion (λ p. p ≤ place)) (λ c all. all-weaker (λ p. p < past) (λ p. p ≤ place) (λ p b. omega (arith, b, h)) c all) chains keeps.below;
  }

  pub keeps-past : (latest : List (K × ℕ)) (chains : List (List ℕ)) (place past : ℕ) → KeepsChains same latest chains place → past ≡ place + 1 → KeepsIndex same latest chains past
  keeps-past latest chains place past keeps h = record {
    within = keeps.within;
    below = all-weaker (AllByRecursion (λ p. p ≤ place)) (AllByRecursion (λ p. p < past)) (λ c all. all-weaker (λ p. p ≤ place) (λ p. p < past) (λ p b. omega (arith, b, h)) c all) chains keeps.below;
  }

  pub places-below : (latest : List (K × ℕ)) (chains : List (List ℕ)) (past place : ℕ) (q : K) → KeepsIndex same latest chains past → past ≤ place
      → AllByRecursion (λ p. p < place) (chain chains (number_in same latest q))
  places-below latest chains past place q keeps h =
      below-at (λ p. p < place) chains (number_in same latest q)
      (all-weaker (AllByRecursion (λ p. p < past)) (AllByRecursion (λ p. p < place)) (λ c all. all-weaker (λ p. p < past) (λ p. p < place) (λ p b. omega (arith, b, h)) c all) chains keeps.below)

-- ---- the keys one after the other

-- noting what is left leads to where noting all keys leads from the beginning
pub record Noting {K : Type 0} (same : K → K → Bool) (place : ℕ) (first : List (K × ℕ)) (chains : List (List ℕ)) (keys : List K) (latest : List (K × ℕ)) (now : List (List ℕ)) (rest : List K) : Type 0 where
  pub leads : (q : K) → noted_all same place q (chain now (number_in same latest q)) rest ≡ noted_all same place q (chain chains (number_in same first q)) keys
  pub keeps : KeepsChains same latest now place

module _ {K : Type 0} (same : K → K → Bool) where
  pub noting-start : (place : ℕ) (latest : List (K × ℕ)) (chains : List (List ℕ)) (keys rest : List K) → KeepsChains same latest chains place → rest ≡ keys → Noting same place latest chains keys latest chains rest
  noting-start place latest chains keys rest keeps is = record { leads = λ q. ap (noted_all same place q (chain chains (number_in same latest q))) is; keeps = keeps }

  pub noting-next : (place : ℕ) (first : List (K × ℕ)) (chains : List (List ℕ)) (keys : List K) (latest new : List (K × ℕ)) (now more : List (List ℕ)) (key : K) (rest left : List K)
      → Noting same place first chains keys latest now rest → rest ≡ key ∷ left
      → ((q : K) → chain more (number_in same new q) ≡ noted same place q (chain now (number_in same latest q)) key) → KeepsChains same new more place
      → Noting same place first chains keys new more left
  noting-next place first chains keys latest new now more key rest left so split step keeps = record {
    leads = λ q. ap (λ ps. noted_all same place q ps left) (step q) ∙ ap (noted_all same place q (chain now (number_in same latest q))) (sym split) ∙ so.leads q;
    keeps = keeps;
  }

  pub noting-end : (place : ℕ) (first : List (K × ℕ)) (chains : List (List ℕ)) (keys : List K) (latest : List (K × ℕ)) (now : List (List ℕ)) (rest : List K)
      → Noting same place first chains keys latest now rest → rest ≡ [] → (q : K) → chain now (number_in same latest q) ≡ noted_all same place q (chain chains (number_in same first q)) keys
  noting-end place first chains keys latest now rest so none q = ap (noted_all same place q (chain now (number_in same latest q))) (sym none) ∙ so.leads q

-- ---- results

pub if-ok : {A E P : Type 0} (r : Result A E) → is_ok r ≡ true → OnOk r P → P
if-ok (Ok x) is h = h
if-ok (Err e) is h = absurd (false≢true is)
