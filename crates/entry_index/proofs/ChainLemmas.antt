-- What chains are, step by step.
use Rattle.std.proofs.Common.{ℕ, zero, suc, ◌+◌, ◌-◌, ◌<◌, ◌≤◌, true, false, List, [], ◌∷◌, ◌++◌, length, get_or, ◌≡◌, Option, Some, None, cond, refl, sym, ap, ◌∙◌, subst, fold, arith, rules, ◌⊎◌, inl, inr, ⊎_elim}
use Rattle.std.specs.Prelude.{find, nat_le, slice_get}
use Rattle.std.specs.List.{AllByRecursion, last_or}
use Rattle.std.specs.Option.{option_or}
use Rattle.std.proofs.lemmas.Bool.{false≢true}
use Rattle.std.proofs.lemmas.Bool.Decides.{nat_tests}
use Rattle.std.proofs.lemmas.List.{get_or_append_left, length-append}
use Rattle.std.proofs.lemmas.List.Folds.{find-append}
use Rattle.std.proofs.lemmas.List.Sums.{fold_push}
use Rattle.std.proofs.Math.Seq.{get_or-append_seam}
use Rattle.std.proofs.lemmas.Option.{same_Some, slice_get-get_or, slice_get_within}
use mathlib.Core.List.{IsPrefix}
use Rattle.entry_index.specs.declared.chains.Step.{Step}
use Rattle.etp_values.proofs.PrefixLemmas.{prefix_snoc, prefix_trans}
use Rattle.entry_index.specs.Chains.{chain, is_reached, last_of}
use Rattle.entry_index.specs.Steps.{chains_of, with_step, Begins, IsChained}

pub nat_le-false : (a b : ℕ) → b < a → nat_le a b ≡ false
nat_le-false a b h = search (arith, rules)

pub nat_le-true : (a b : ℕ) → a ≤ b → nat_le a b ≡ true
nat_le-true a b h = search (arith, rules)

-- an earlier chain stays
pub chain-push : (chains : List (List ℕ)) (c : List ℕ) (n : ℕ) → n ≤ length chains → chain (chains ++ c ∷ []) n ≡ chain chains n
chain-push chains c zero h = refl
chain-push chains c (suc n) h = get_or_append_left chains (c ∷ []) [] n h

pub length-push : {X : Type 0} (xs : List X) (x : X) → length (xs ++ x ∷ []) ≡ suc (length xs)
length-push xs x = omega (arith, length-append xs (x ∷ []))

chain-kept : (steps : List Step) (chains : List (List ℕ)) (n : ℕ) → n ≤ length chains → chain (fold with_step chains steps) n ≡ chain chains n
chain-kept [] chains n h = refl
chain-kept (s ∷ ss) chains n h =
    let c = chain chains s.before ++ s.place ∷ [] in
    chain-kept ss (with_step chains s) n (omega (arith, length-push chains c)) ∙ chain-push chains c n h

-- the new chain
pub chain-last : (chains : List (List ℕ)) (c : List ℕ) → chain (chains ++ c ∷ []) (suc (length chains)) ≡ c
chain-last chains c = get_or-append_seam chains c [] []

length-steps : (steps : List Step) (chains : List (List ℕ)) → length (fold with_step chains steps) ≡ length chains + length steps
length-steps [] chains = omega arith
length-steps (s ∷ ss) chains =
    let c = chain chains s.before ++ s.place ∷ [] in
    omega (arith, length-steps ss (with_step chains s), length-push chains c)

pub length-chains : (steps : List Step) → length (chains_of steps) ≡ length steps
length-chains steps = omega (arith, length-steps steps [])

-- one more step
pub chains-push : (steps : List Step) (s : Step) → chains_of (steps ++ s ∷ []) ≡ with_step (chains_of steps) s
chains-push steps s = fold_push with_step [] steps s

-- the chain of a step
chain-at : (steps : List Step) (chains : List (List ℕ)) (n k : ℕ) (s : Step) → slice_get steps n ≡ Some s → k ≡ suc (length chains + n) → s.before ≤ length chains + n
    → chain (fold with_step chains steps) k ≡ chain (fold with_step chains steps) s.before ++ s.place ∷ []
chain-at [] chains n k s at is before = absurd cc
chain-at (t ∷ ts) chains zero k s at is before =
    let c = chain chains t.before ++ t.place ∷ [] in
    let long : length (with_step chains t) ≡ suc (length chains) = length-push chains c in
    let e : t ≡ s = same_Some t s at in
    let same : t.before ≡ s.before = ap (λ x. x.before) e in
    let within : t.before ≤ length chains = omega (arith, same, before) in
    let own : chain (fold with_step (with_step chains t) ts) (suc (length chains)) ≡ c = chain-kept ts (with_step chains t) (suc (length chains)) (omega (arith, long)) ∙ chain-last chains c in
    let early : chain (fold with_step (with_step chains t) ts) t.before ≡ chain chains t.before = chain-kept ts (with_step chains t) t.before (omega (arith, long, within)) ∙ chain-push chains c t.before within in
    let number : k ≡ suc (length chains) = omega (arith, is) in
    ap (chain (fold with_step (with_step chains t) ts)) number ∙ own ∙ (λ j. sym early j ++ t.place ∷ [])
    ∙ (λ j. chain (fold with_step (with_step chains t) ts) (e j).before ++ (e j).place ∷ [])
chain-at (t ∷ ts) chains (suc n) k s at is before =
    let c = chain chains t.before ++ t.place ∷ [] in
    let long : length (with_step chains t) ≡ suc (length chains) = length-push chains c in
    chain-at ts (with_step chains t) n k s at (omega (arith, is, long)) (omega (arith, before, long))

pub chain-step : (steps : List Step) (n : ℕ) (s : Step) → slice_get steps n ≡ Some s → s.before ≤ n → chain (chains_of steps) (suc n) ≡ chain (chains_of steps) s.before ++ s.place ∷ []
chain-step steps n s at before = chain-at steps [] n (suc n) s at (omega arith) (omega (arith, before))

-- ---- the invariant

slice-push : {X : Type 0} (xs : List X) (x : X) (n : ℕ) (y : X) → slice_get (xs ++ x ∷ []) n ≡ Some y → (slice_get xs n ≡ Some y) ⊎ ((n ≡ length xs) × (x ≡ y))
slice-push [] x zero y at = inr (refl, same_Some x y at)
slice-push [] x (suc n) y at = absurd cc
slice-push (z ∷ zs) x zero y at = inl at
slice-push (z ∷ zs) x (suc n) y at = ⊎_elim (λ h. inl h) (λ h. inr (ap suc h.0, h.1)) (slice-push zs x n y at)

-- what was a prefix before one more step is one after it
begins-kept : (steps more : List Step) (a b : ℕ) → ((m : ℕ) → m ≤ length steps → chain (chains_of more) m ≡ chain (chains_of steps) m) → b ≤ length steps → Begins steps a b → Begins more a b
begins-kept steps more a b same within begins =
    let there : IsPrefix (chain (chains_of steps) a) (chain (chains_of more) b) = subst (IsPrefix (chain (chains_of steps) a)) (sym (same b within)) begins.1 in
    (begins.0, subst (λ c. IsPrefix c (chain (chains_of more) b)) (sym (same a (omega (arith, within, begins.0)))) there)

pub chained-push : (steps : List Step) (s : Step) → IsChained steps → s.before ≤ length steps → AllByRecursion (λ p. p ≤ s.place) (chain (chains_of steps) s.before) → Begins steps s.jump.to s.before
    → IsChained (steps ++ s ∷ [])
chained-push steps s old before rises begins = record {
  goes_on = λ n t at.
      ⊎_elim
      (λ h. let told = old.goes_on n t h in (told.0, subst (AllByRecursion (λ p. p ≤ t.place)) (sym (same t.before (omega (arith, told.0, slice_get_within steps n t h)))) told.1))
      (λ h. subst (λ u. (u.before ≤ n) × AllByRecursion (λ p. p ≤ u.place) (chain (chains_of (steps ++ s ∷ [])) u.before)) h.1
      (subst (λ m. s.before ≤ m) (sym h.0) before, subst (AllByRecursion (λ p. p ≤ s.place)) (sym (same s.before before)) rises))
      (slice-push steps s n t at);
  jumps = λ n t at.
      ⊎_elim
      (λ h. begins-kept steps (steps ++ s ∷ []) t.jump.to t.before same (omega (arith, (old.goes_on n t h).0, slice_get_within steps n t h)) (old.jumps n t h))
      (λ h. subst (λ u. Begins (steps ++ s ∷ []) u.jump.to u.before) h.1 (begins-kept steps (steps ++ s ∷ []) s.jump.to s.before same before begins))
      (slice-push steps s n t at);
}
  where
    c : List ℕ
    c = chain (chains_of steps) s.before ++ s.place ∷ []

    same : (m : ℕ) → m ≤ length steps → chain (chains_of (steps ++ s ∷ [])) m ≡ chain (chains_of steps) m
    same m h = ap (λ cs. chain cs m) (chains-push steps s) ∙ chain-push (chains_of steps) c m (subst (λ l. m ≤ l) (sym (length-chains steps)) h)

-- ---- what is found in a chain

-- none from a place on if the last is before it
pub find-before : (from p : ℕ) (ps : List ℕ) → p < from → AllByRecursion (λ q. q ≤ p) ps → find (nat_le from) (ps ++ p ∷ []) ≡ None
find-before from p [] h all = ap (λ b. cond b (Some p) None) (nat_le-false from p h)
find-before from p (q ∷ qs) h all = ap (λ b. cond b (Some q) (find (nat_le from) (qs ++ p ∷ []))) (nat_le-false from q (omega (arith, h, all.0))) ∙ find-before from p qs h all.1

pub last-push : (ps : List ℕ) (p : ℕ) (o : Option ℕ) → last_or o (ps ++ p ∷ []) ≡ Some p
last-push [] p o = refl
last-push (q ∷ qs) p o = last-push qs p (Some q)

-- ---- a step by its number

pub record IsStepOf (steps : List Step) (n : ℕ) (s : Step) : Type 0 where
  pub earlier : s.before < n
  pub rises : AllByRecursion (λ p. p ≤ s.place) (chain (chains_of steps) s.before)
  pub chain_is : chain (chains_of steps) n ≡ chain (chains_of steps) s.before ++ s.place ∷ []
  pub jumps : Begins steps s.jump.to s.before

step-of-suc : (steps : List Step) (k : ℕ) (s : Step) → IsChained steps → slice_get steps k ≡ Some s → IsStepOf steps (suc k) s
step-of-suc steps k s chained at =
    let told = chained.goes_on k s at in
    record { earlier = omega (arith, told.0); rises = told.1; chain_is = chain-step steps k s at told.0; jumps = chained.jumps k s at }

pub step-of : (steps : List Step) (n : ℕ) (d : Step) → IsChained steps → 0 < n → n ≤ length steps → IsStepOf steps n (get_or steps (n - 1) d)
step-of steps zero d chained h within = absurd (omega (arith, h))
step-of steps (suc k) d chained h within =
    let e : suc k - 1 ≡ k = omega arith in
    subst (λ i. IsStepOf steps (suc k) (get_or steps i d)) (sym e) (step-of-suc steps k (get_or steps k d) chained (slice_get-get_or steps k d (omega (arith, within))))

-- ---- what is found from the last step back

or-found : (a : Option ℕ) (p : ℕ) (found : Option ℕ) → option_or (option_or a (Some p)) found ≡ option_or a (Some p)
or-found None p found = refl
or-found (Some x) p found = refl

-- a step that is not before the place
pub found-on : (steps : List Step) (n from : ℕ) (s : Step) (found whole : Option ℕ) → IsStepOf steps n s → from ≤ s.place
    → whole ≡ option_or (find (nat_le from) (chain (chains_of steps) n)) found
    → whole ≡ option_or (find (nat_le from) (chain (chains_of steps) s.before)) (Some s.place)
found-on steps n from s found whole is from_on h =
    let xs = chain (chains_of steps) s.before in
    let here : find (nat_le from) (s.place ∷ []) ≡ Some s.place = ap (λ b. cond b (Some s.place) None) (nat_le-true from s.place from_on) in
    h ∙ (λ j. option_or (find (nat_le from) (is.chain_is j)) found)
    ∙ ap (λ o. option_or o found) (find-append (nat_le from) xs (s.place ∷ []) ∙ ap (option_or (find (nat_le from) xs)) here)
    ∙ or-found (find (nat_le from) xs) s.place found

-- a step that is
pub found-before : (steps : List Step) (n from : ℕ) (s : Step) (found whole : Option ℕ) → IsStepOf steps n s → s.place < from
    → whole ≡ option_or (find (nat_le from) (chain (chains_of steps) n)) found → found ≡ whole
found-before steps n from s found whole is before h =
    sym (h ∙ (λ j. option_or (find (nat_le from) (is.chain_is j)) found) ∙ ap (λ o. option_or o found) (find-before from s.place (chain (chains_of steps) s.before) before is.rises))

pub last-step : (steps : List Step) (n : ℕ) (s : Step) → IsStepOf steps n s → last_of (chain (chains_of steps) n) ≡ Some s.place
last-step steps n s is = ap last_of is.chain_is ∙ last-push (chain (chains_of steps) s.before) s.place None

-- ---- jumps

-- the target of a step's jump is a prefix of its own chain
pub jump-begins : (steps : List Step) (n : ℕ) (s : Step) → IsStepOf steps n s → Begins steps s.jump.to n
jump-begins steps n s is =
    let xs = chain (chains_of steps) s.before in (
      omega (arith, is.earlier, is.jumps.0),
      subst (IsPrefix (chain (chains_of steps) s.jump.to)) (sym is.chain_is) (prefix_snoc (chain (chains_of steps) s.jump.to) xs s.place is.jumps.1),
    )

-- what is found up to a last place that is past it is found in the whole
found-front : (from p x : ℕ) (xs rest : List ℕ) → last_or (Some x) xs ≡ Some p → from ≤ p → find (nat_le from) (x ∷ (xs ++ rest)) ≡ find (nat_le from) (x ∷ xs)
found-front from p x [] rest h on =
    let here : nat_le from x ≡ true = nat_le-true from x (subst (λ y. from ≤ y) (sym (same_Some x p h)) on) in
    ap (λ b. cond b (Some x) (find (nat_le from) rest)) here ∙ sym (ap (λ b. cond b (Some x) None) here)
found-front from p x (y ∷ ys) rest h on = ap (λ o. cond (nat_le from x) (Some x) o) (found-front from p y ys rest h on)

found-begun : (from p : ℕ) (xs ys : List ℕ) → IsPrefix xs ys → last_of xs ≡ Some p → from ≤ p → find (nat_le from) xs ≡ find (nat_le from) ys
found-begun from p [] ys begins h on = absurd cc
found-begun from p (x ∷ xs) ys begins h on = sym (found-front from p x xs begins.0 h on) ∙ ap (find (nat_le from)) begins.1

pub found-jumped : (from : ℕ) (o : Option ℕ) (xs ys : List ℕ) → IsPrefix xs ys → o ≡ last_of xs → is_reached from o ≡ true → find (nat_le from) xs ≡ find (nat_le from) ys
found-jumped from None xs ys begins h on = absurd (false≢true on)
found-jumped from (Some p) xs ys begins h on = found-begun from p xs ys begins (sym h) (reached from p on)
  where
    reached : (a b : ℕ) → nat_le a b ≡ true → a ≤ b
    reached a b h = grind (arith, nat_tests, h)
