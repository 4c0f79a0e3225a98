-- There is only one list of entries in the order of their names.
use Rattle.std.proofs.Common.{◌≡◌, ℕ, zero, suc, ◌+◌, ◌<◌, false, List, [], ◌∷◌, ◌++◌, length, get_or, refl, sym, ap, subst, ◌∙◌, arith, ◌⊎◌, inl, inr}
use Rattle.std.proofs.lemmas.List.{append-nil}
use Rattle.std.specs.Ordering.{nat_cmp, is_eq, eq_by_cmp, ordering_reverse}
use Rattle.std.specs.declared.cmp.Ordering.{Ordering}
use Rattle.std.specs.declared.cmp.Ordering.TheVariants.{Less, Equal, Greater}
use Rattle.std.specs.Cmp.Lexicographic.{slice_cmp}
use Rattle.std.specs.List.{AllByRecursion, IsDistinct, Contains}
use Rattle.std.specs.List.Sorted.{IsStrictlySortedBy, IsPermutation}
use Rattle.std.specs.Map.{keys_of}
use Rattle.std.specs.BTreeMap.{insert_entry}
use Rattle.std.proofs.lemmas.Cmp.{nat_list_cmp_total}
use Rattle.std.proofs.lemmas.List.Sorted.{IsPermutation-trans, IsPermutation-sym, IsPermutation-map, Contains-permutation}
use Rattle.std.proofs.lemmas.Map.Keys.{IsDistinct-from_sorted, IsDistinct-IsPermutation, IsDistinct-head}
use Rattle.avro_bin.specs.Reading.{has}
use Rattle.avro_bin.specs.Steps.{Put, Steps}
use Rattle.avro_bin.proofs.OrderLemmas.{Entry, cmp, sizes_named, sizes_named-permutation, steps_names, moved, sorted_none}

less_self : (k : List ℕ) → cmp k k ≡ Less → ⊥
less_self k h = let e : Less ≡ Greater = sym h ∙ nat_list_cmp_total.antisymm k k ∙ ap ordering_reverse h in cc

head_or : (e : Entry) (es : List Entry) (x : Entry) (k : ℕ) → k < length (e ∷ es) → get_or (e ∷ es) k x ≡ x → (e ≡ x) ⊎ Contains es x
head_or e es x zero lt h = inl h
head_or e es x (suc k) lt h = inr (k, omega arith, h)

first : (e : Entry) (es : List Entry) → Contains (e ∷ es) e
first e es = (0, omega arith, refl)

later : (e : Entry) (es : List Entry) (x : Entry) → Contains es x → Contains (e ∷ es) x
later e es x c = (suc c.0, omega (arith, c.1), c.2)

all_key : (P : List ℕ → Type 0) (es : List Entry) (x : Entry) → AllByRecursion P (keys_of es) → (k : ℕ) → k < length es → get_or es k x ≡ x → P x.0
all_key P [] x all k lt h = absurd (omega arith)
all_key P (e ∷ es) x all zero lt h = subst (λ (y : Entry). P y.0) h all.0
all_key P (e ∷ es) x all (suc k) lt h = all_key P es x all.1 k (omega arith) h

abbrev Among : List Entry → List Entry → Type 0
Among es fs = (x : Entry) → Contains es x → Contains fs x

heads : (e f : Entry) (es fs : List Entry) → AllByRecursion (λ y. cmp e.0 y ≡ Less) (keys_of es) → AllByRecursion (λ y. cmp f.0 y ≡ Less) (keys_of fs) → Among (e ∷ es) (f ∷ fs) → Among (f ∷ fs) (e ∷ es) → e ≡ f
heads e f es fs s t h g =
    let p = h e (first e es) in
    let q = g f (first f fs) in
    elim (head_or f fs e p.0 p.1 p.2) [
      | inl same ↦ sym same
      | inr c ↦ elim (head_or e es f q.0 q.1 q.2) [
        | inl same ↦ same
        | inr d ↦
            let down : cmp f.0 e.0 ≡ Less = all_key (λ y. cmp f.0 y ≡ Less) fs e t c.0 c.1 c.2 in
            let up : cmp e.0 f.0 ≡ Less = all_key (λ y. cmp e.0 y ≡ Less) es f s d.0 d.1 d.2 in
            absurd (less_self e.0 (nat_list_cmp_total.trans e.0 f.0 e.0 up down))
      ]
    ]

tails : (e f : Entry) (es fs : List Entry) → e ≡ f → AllByRecursion (λ y. cmp e.0 y ≡ Less) (keys_of es) → Among (e ∷ es) (f ∷ fs) → Among es fs
tails e f es fs same s h x c =
    let p = h x (later e es x c) in
    elim (head_or f fs x p.0 p.1 p.2) [
      | inl at ↦ absurd (less_self x.0 (subst (λ (y : Entry). cmp y.0 x.0 ≡ Less) (same ∙ at) (all_key (λ y. cmp e.0 y ≡ Less) es x s c.0 c.1 c.2)))
      | inr d ↦ d
    ]

unique : (es fs : List Entry) → IsStrictlySortedBy (slice_cmp nat_cmp) (keys_of es) → IsStrictlySortedBy (slice_cmp nat_cmp) (keys_of fs) → Among es fs → Among fs es → es ≡ fs
unfolding IsStrictlySortedBy
unique [] [] s t h g = refl
unique [] (f ∷ fs) s t h g = let p = g f (first f fs) in absurd (omega (arith, p.1))
unique (e ∷ es) [] s t h g = let p = h e (first e es) in absurd (omega (arith, p.1))
unique (e ∷ es) (f ∷ fs) s t h g =
    let same : e ≡ f = heads e f es fs s.0 t.0 h g in
    let rest : es ≡ fs = unique es fs s.1 t.1 (tails e f es fs same s.0 h) (tails f e fs es (sym same) t.0 g) in
    cc

pub order_unique : (es fs : List Entry) → IsStrictlySortedBy (slice_cmp nat_cmp) (keys_of es) → IsStrictlySortedBy (slice_cmp nat_cmp) (keys_of fs) → IsPermutation es fs → es ≡ fs
order_unique es fs s t p = unique es fs s t (λ x c. Contains-permutation es fs x p c) (λ x c. Contains-permutation fs es x (IsPermutation-sym es fs p) c)

fresh : (k : List ℕ) (es fs : List Entry) → AllByRecursion (λ y. eq_by_cmp (slice_cmp nat_cmp) k y ≡ false) (keys_of (es ++ fs)) → has k fs ≡ false
fresh k [] [] all = refl
fresh k [] (f ∷ fs) all = let e : is_eq (cmp k f.0) ≡ false = all.0 in rw e (fresh k [] fs all.1)
fresh k (e ∷ es) fs all = fresh k es fs all.1

reverse_eq : (o : Ordering) → is_eq (ordering_reverse o) ≡ is_eq o
reverse_eq Less = refl
reverse_eq Equal = refl
reverse_eq Greater = refl

flips : (x y : List ℕ) → eq_by_cmp (slice_cmp nat_cmp) x y ≡ eq_by_cmp (slice_cmp nat_cmp) y x
flips x y = ap is_eq (nat_list_cmp_total.antisymm x y) ∙ reverse_eq (cmp y x)

abbrev Differ : List Entry → Type 0
Differ es = IsDistinct (eq_by_cmp (slice_cmp nat_cmp)) (keys_of es)

still_differ : (es fs : List Entry) → IsPermutation es fs → Differ es → Differ fs
still_differ es fs p d = IsDistinct-IsPermutation (eq_by_cmp (slice_cmp nat_cmp)) flips (keys_of es) (keys_of fs) (IsPermutation-map (λ (e : Entry). e.0) es fs p) d

steps_made : (items s : List Entry) (n left : ℕ) → Differ (items ++ s) → n ≡ sizes_named items + left → (t : List Entry) × Steps Put (s, n) items (t, left)
steps_made [] s n left d e = let m : n ≡ left = omega arith in (s, ap (λ (k : ℕ). (s, k)) m)
steps_made (x ∷ items) s n left d e =
    let none : has x.0 s ≡ false = fresh x.0 items s (IsDistinct-head (eq_by_cmp (slice_cmp nat_cmp)) x.0 (keys_of (items ++ s)) d) in
    let r = steps_made items (insert_entry (slice_cmp nat_cmp) s x.0 x.1) (sizes_named items + left) left (still_differ ((x ∷ items) ++ s) (items ++ insert_entry (slice_cmp nat_cmp) s x.0 x.1) (moved x items s none) d) refl in
    (r.0, ((insert_entry (slice_cmp nat_cmp) s x.0 x.1, sizes_named items + left), (none, refl, omega arith), r.1))

pub names_steps : (items es : List Entry) (n left : ℕ) → IsStrictlySortedBy (slice_cmp nat_cmp) (keys_of es) → IsPermutation items es → n ≡ sizes_named es + left → Steps Put ([], n) items (es, left)
names_steps items es n left sorted perm e =
    let back : IsPermutation es items = IsPermutation-sym items es perm in
    let d : Differ items = still_differ es items back (IsDistinct-from_sorted (slice_cmp nat_cmp) (keys_of es) sorted) in
    let d' : Differ (items ++ []) = subst Differ (sym (append-nil items)) d in
    let r = steps_made items [] n left d' (omega (arith, e, sizes_named-permutation items es perm)) in
    let q = steps_names items ([], n) (r.0, left) sorted_none r.1 in
    let same : IsPermutation items r.0 = subst (λ (xs : List Entry). IsPermutation xs r.0) (append-nil items) q.0 in
    let one : es ≡ r.0 = order_unique es r.0 sorted q.1 (IsPermutation-trans es items r.0 back same) in
    subst (λ (t : List Entry). Steps Put ([], n) items (t, left)) (sym one) r.1
