-- Marks, and the places that are left of them without one for each own entry.
use Rattle.std.proofs.Common.{◌≡◌, ◌≢◌, ◌==◌, ℕ, zero, suc, ◌+◌, ◌≤◌, ◌<◌, Bool, true, false, eq-eqb, ne_eqb, List, [], ◌∷◌, ◌++◌, map, length, Option, Some, None, IfSome, slice_get, refl, ap, sym, ◌∙◌, subst, arith, if◌then◌else◌}
use Rattle.std.proofs.lemmas.Bool.{eqb-true}
use Rattle.std.proofs.lemmas.Option.{slice_get_within, slice_get_past}
use mathlib.Core.Option.{some, some-injective, some-ne-none}
use mathlib.Core.Logic.{dite}
use mathlib.Core.List.{IsPrefix, map-append}
use native.Mathlib.Decide.{ℕ_discrete}
use lib.ListN.{get_elem?}
use Rattle.etp_values.specs.Rising.{Rises}
use Rattle.turn_book.specs.Lists.{Each, without, without_each, own_from, own, own_places}
use Rattle.turn_book.specs.Rules.{IsDated}
use Rattle.etp_values.proofs.PrefixLemmas.{prefix_get}
use Rattle.etp_values.proofs.RisingLemmas.{rises_bound}
use Rattle.turn_book.proofs.ListLemmas.{each_none, each_snoc}
use Rattle.turn_book.proofs.OwnLemmas.{own_grown}

-- at p, counted from k, the list has an entry by n
pub record IsPlaceOf {E : Type 0} (by : E → ℕ) (n k : ℕ) (log : List E) (p : ℕ) : Type 0 where
  pub at : ℕ
  pub is : p ≡ k + at
  pub entry : E
  pub stands : slice_get log at ≡ Some entry
  pub writer : by entry ≡ n

further : {E : Type 0} (by : E → ℕ) (n k : ℕ) (x : E) (log : List E) (p : ℕ) → IsPlaceOf by n (k + 1) log p → IsPlaceOf by n k (x ∷ log) p
further by n k x log p f = record { at = suc f.at; is = (let e = f.is in omega arith); entry = f.entry; stands = f.stands; writer = f.writer }

place_if : {E : Type 0} (by : E → ℕ) (n k : ℕ) (x : E) (log : List E) (b : Bool) → (by x == n) ≡ b
    → ((i p : ℕ) → get_elem? (map (λ q. q.0) (own_from by n (k + 1) log)) i ≡ some p → IsPlaceOf by n (k + 1) log p)
    → (i p : ℕ) → get_elem? (map (λ q. q.0) (if b then (k, x) ∷ own_from by n (k + 1) log else own_from by n (k + 1) log)) i ≡ some p → IsPlaceOf by n k (x ∷ log) p
place_if by n k x log true is rest zero p at = record { at = 0; is = (let e = some-injective k p at in omega arith); entry = x; stands = refl; writer = eqb-true (by x) n is }
place_if by n k x log true is rest (suc i) p at = further by n k x log p (rest i p at)
place_if by n k x log false is rest i p at = further by n k x log p (rest i p at)

pub place_of : {E : Type 0} (by : E → ℕ) (n k : ℕ) (log : List E) (i p : ℕ) → get_elem? (map (λ q. q.0) (own_from by n k log)) i ≡ some p → IsPlaceOf by n k log p
place_of by n k [] i p at = absurd (some-ne-none p (sym at))
place_of by n k (x ∷ log) i p at = place_if by n k x log (by x == n) refl (λ i p found. place_of by n (k + 1) log i p found) i p at

own_below : {E : Type 0} (by : E → ℕ) (n : ℕ) (log : List E) → Each (λ p. p < length log) (map (λ q. q.0) (own by n log))
own_below by n log i p at = let f = place_of by n 0 log i p at in let within = slice_get_within log f.at f.entry f.stands in let e = f.is in omega arith

places_below : {E : Type 0} (by : E → ℕ) (number : Option ℕ) (log : List E) → Each (λ p. p < length log) (own_places by number log)
places_below by None log = each_none (λ p. p < length log)
places_below by (Some n) log = own_below by n log

without_none : (n : ℕ) (xs : List ℕ) → Each (λ x. x ≢ n) xs → without n xs ≡ xs
without_none n [] all = refl
without_none n (x ∷ xs) all = ap (λ (b : Bool). if b then xs else x ∷ without n xs) (ne_eqb x n (all 0 x refl)) ∙ ap (λ l. x ∷ l) (without_none n xs (λ i y at. all (suc i) y at))

without_each_none : (ns xs : List ℕ) → Each (λ n. Each (λ x. x ≢ n) xs) ns → without_each ns xs ≡ xs
without_each_none [] xs all = refl
without_each_none (n ∷ ns) xs all = ap (without_each ns) (without_none n xs (all 0 n refl)) ∙ without_each_none ns xs (λ i m at. all (suc i) m at)

pub without_nil : (ns : List ℕ) → without_each ns [] ≡ []
without_nil [] = refl
without_nil (n ∷ ns) = without_nil ns

if_snoc : (b : Bool) (x y : ℕ) (xs rest rest' : List ℕ) → rest' ≡ rest ++ y ∷ [] → (if b then xs ++ y ∷ [] else x ∷ rest') ≡ (if b then xs else x ∷ rest) ++ y ∷ []
if_snoc true x y xs rest rest' e = refl
if_snoc false x y xs rest rest' e = ap (λ l. x ∷ l) e

without_snoc : (n : ℕ) (xs : List ℕ) (y : ℕ) → y ≢ n → without n (xs ++ y ∷ []) ≡ without n xs ++ y ∷ []
without_snoc n [] y ne = ap (λ (b : Bool). if b then [] else y ∷ []) (ne_eqb y n ne)
without_snoc n (x ∷ xs) y ne = if_snoc (x == n) x y xs (without n xs) (without n (xs ++ y ∷ [])) (without_snoc n xs y ne)

without_each_snoc : (ns xs : List ℕ) (y : ℕ) → Each (λ n. y ≢ n) ns → without_each ns (xs ++ y ∷ []) ≡ without_each ns xs ++ y ∷ []
without_each_snoc [] xs y all = refl
without_each_snoc (n ∷ ns) xs y all = ap (without_each ns) (without_snoc n xs y (all 0 n refl)) ∙ without_each_snoc ns (without n xs) y (λ i m at. all (suc i) m at)

without_one_more : (ns : List ℕ) (n : ℕ) (xs : List ℕ) → without_each (ns ++ n ∷ []) xs ≡ without n (without_each ns xs)
without_one_more [] n xs = refl
without_one_more (m ∷ ns) n xs = without_one_more ns n (without m xs)

-- numbers that rise from n to n are all n
all_same : (n : ℕ) (xs : List ℕ) → Rises n xs n → n ∷ xs ≡ xs ++ n ∷ []
all_same n [] r = refl
all_same n (x ∷ xs) r =
    let up = rises_bound x xs n r.1 in
    let low = r.0 in
    let same : n ≡ x = omega arith in
    let back = sym same in
    (λ i. same i ∷ back i ∷ xs) ∙ ap (λ l. x ∷ l) (all_same n xs (subst (λ (y : ℕ). Rises y xs n) back r.1))

-- of rising numbers and one more at the end, the first that equals it is as good as the last
without_last : (low : ℕ) (xs : List ℕ) (n : ℕ) → Rises low xs n → without n (xs ++ n ∷ []) ≡ xs
without_last low [] n r = ap (λ (b : Bool). if b then [] else n ∷ []) (eq-eqb n n refl)
without_last low (x ∷ xs) n r = dite (ℕ_discrete x n)
    (λ e. ap (λ (b : Bool). if b then xs ++ n ∷ [] else x ∷ without n (xs ++ n ∷ [])) (eq-eqb x n e) ∙ (sym (all_same n xs (subst (λ (y : ℕ). Rises y xs n) e r.1)) ∙ ap (λ (y : ℕ). y ∷ xs) (sym e)))
    (λ ne. ap (λ (b : Bool). if b then xs ++ n ∷ [] else x ∷ without n (xs ++ n ∷ [])) (ne_eqb x n ne) ∙ ap (λ l. x ∷ l) (without_last x xs n r.1))

pub own_places_same : {E : Type 0} (by : E → ℕ) (number : Option ℕ) (seen log : List E) → IfSome number (λ n. own by n log ≡ own by n seen) → own_places by number log ≡ own_places by number seen
own_places_same by None seen log e = refl
own_places_same by (Some n) seen log e = ap (map (λ q. q.0)) e

-- a look with the turn adds to both
pub places_marked : {E : Type 0} (by : E → ℕ) (number : Option ℕ) (seen log : List E) (marks places : List ℕ) (n : ℕ) → n ≡ length log → IfSome number (λ n. own by n log ≡ own by n seen)
    → places ≡ without_each (own_places by number seen) marks → places ++ n ∷ [] ≡ without_each (own_places by number log) (marks ++ n ∷ [])
places_marked by number seen log marks places n is same known =
    let known' : places ≡ without_each (own_places by number log) marks = known ∙ ap (λ ps. without_each ps marks) (sym (own_places_same by number seen log same)) in
    ap (λ l. l ++ n ∷ []) known' ∙ sym (without_each_snoc (own_places by number log) marks n (λ i p at. let b = places_below by number log i p at in λ e. omega arith))

-- an own entry adds only to the marks
pub places_own : {E : Type 0} (by : E → ℕ) (number : ℕ) (seen : List E) (e : E) (marks places : List ℕ) → by e ≡ number → Rises 0 places (length seen)
    → places ≡ without_each (own_places by (Some number) seen) marks → places ≡ without_each (own_places by (Some number) (seen ++ e ∷ [])) (marks ++ length seen ∷ [])
places_own {E} by number seen e marks places is rises known =
    let n : ℕ = length seen in
    let ps : List ℕ = own_places by (Some number) seen in
    let more : own_places by (Some number) (seen ++ e ∷ []) ≡ ps ++ n ∷ [] = ap (map (λ q. q.0)) (own_grown by number seen e is) ∙ map-append (λ (q : ℕ × E). q.0) (own by number seen) ((n, e) ∷ []) in
    let behind : without_each ps (marks ++ n ∷ []) ≡ without_each ps marks ++ n ∷ [] = without_each_snoc ps marks n (λ i p at. let b = own_below by number seen i p at in λ e. omega arith) in
    sym (ap (λ l. without_each l (marks ++ n ∷ [])) more
    ∙ (without_one_more ps n (marks ++ n ∷ []) ∙ (ap (without n) (behind ∙ ap (λ l. l ++ n ∷ []) (sym known)) ∙ without_last 0 places n rises)))

-- a writer that comes only now has no entry at a mark
pub places_new : {E : Type 0} (by : E → ℕ) (seen : List E) (marks places : List ℕ) → IsDated by seen marks → places ≡ marks → places ≡ without_each (own_places by (Some (length seen)) seen) marks
places_new by seen marks places dated is = is ∙ sym (without_each_none (own_places by (Some (length seen)) seen) marks
    (λ i p at j m found. let f = place_of by (length seen) 0 seen i p at in let here : p ≡ f.at = (let e = f.is in omega arith) in
    let within = slice_get_within seen f.at f.entry f.stands in
    λ e. let late : by f.entry ≤ m = subst (λ o. IfSome o (λ x. by x ≤ m)) (ap (slice_get seen) (e ∙ here) ∙ f.stands) (dated j m found) in let w = f.writer in omega arith))

pub get_last : {X : Type 0} (xs : List X) (x : X) → slice_get (xs ++ x ∷ []) (length xs) ≡ Some x
get_last [] x = refl
get_last (y ∷ xs) x = get_last xs x

get_before : {X : Type 0} (xs : List X) (x : X) (i : ℕ) → i < length xs → slice_get (xs ++ x ∷ []) i ≡ slice_get xs i
get_before [] x i lt = absurd (omega arith)
get_before (y ∷ xs) x zero lt = refl
get_before (y ∷ xs) x (suc i) lt = get_before xs x i (omega arith)

pub dated_marked : {E : Type 0} (by : E → ℕ) (log : List E) (marks : List ℕ) (n : ℕ) → n ≡ length log → IsDated by log marks → IsDated by log (marks ++ n ∷ [])
dated_marked by log marks n is dated = each_snoc (λ m. IfSome (slice_get log m) (λ e. by e ≤ m)) marks n dated (subst (λ o. IfSome o (λ e. by e ≤ n)) (sym (slice_get_past log n (omega arith))) tt)

-- one more entry, whose writer is no later than its place
pub dated_grown : {E : Type 0} (by : E → ℕ) (log : List E) (e : E) (marks : List ℕ) → Each (λ m. m ≤ length log) marks → by e ≤ length log → IsDated by log marks → IsDated by (log ++ e ∷ []) marks
dated_grown by log e marks within early dated i m at =
    let P : ℕ → Option _ → Type 0 = λ m o. IfSome o (λ x. by x ≤ m) in
    let le : m ≤ length log = within i m at in
    dite (ℕ_discrete m (length log))
    (λ is. subst (P m) (sym (ap (slice_get (log ++ e ∷ [])) is ∙ get_last log e)) (let b = early in omega arith))
    (λ other. subst (P m) (sym (get_before log e m (omega arith))) (dated i m at))

-- the same, if its place becomes a mark
pub dated_own : {E : Type 0} (by : E → ℕ) (log : List E) (e : E) (marks : List ℕ) → Each (λ m. m ≤ length log) marks → by e ≤ length log → IsDated by log marks → IsDated by (log ++ e ∷ []) (marks ++ length log ∷ [])
dated_own by log e marks within early dated = each_snoc (λ m. IfSome (slice_get (log ++ e ∷ []) m) (λ x. by x ≤ m)) marks (length log) (dated_grown by log e marks within early dated)
    (subst (λ o. IfSome o (λ x. by x ≤ length log)) (sym (get_last log e)) early)

if_there : {E : Type 0} (o o' : Option E) (P : E → Type 0) → ((e : E) → o ≡ Some e → o' ≡ Some e) → IfSome o' P → IfSome o P
if_there None o' P same p = tt
if_there (Some e) o' P same p = subst (λ u. IfSome u P) (same e refl) p

pub dated_seen : {E : Type 0} (by : E → ℕ) (seen log : List E) (marks : List ℕ) → IsPrefix seen log → IsDated by log marks → IsDated by seen marks
dated_seen by seen log marks pre dated i m at = if_there (slice_get seen m) (slice_get log m) (λ e. by e ≤ m) (λ e stands. prefix_get seen log m e pre stands) (dated i m at)
