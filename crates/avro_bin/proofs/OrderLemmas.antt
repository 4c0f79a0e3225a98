-- How steps change rows and names.
use Rattle.std.proofs.Common.{◌≡◌, ℕ, ◌+◌, true, false, List, [], ◌∷◌, ◌++◌, refl, sym, ap, subst, ◌∙◌, arith, ◌⊎◌, inl, inr, append_assoc}
use Rattle.std.proofs.lemmas.List.{append-nil}
use Rattle.std.specs.Ordering.{nat_cmp, ordering_reverse}
use Rattle.std.specs.declared.cmp.Ordering.{Ordering}
use Rattle.std.specs.declared.cmp.Ordering.TheVariants.{Less, Equal, Greater}
use Rattle.std.specs.Cmp.Lexicographic.{slice_cmp}
use Rattle.std.specs.List.{AllByRecursion, sum_by}
use Rattle.std.specs.List.Sorted.{IsStrictlySortedBy, IsPermutation}
use Rattle.std.specs.Map.{keys_of}
use Rattle.std.specs.BTreeMap.{insert_entry}
use Rattle.std.proofs.lemmas.List.Sums.{sum_by-cons}
use Rattle.std.proofs.lemmas.Cmp.{nat_list_cmp_total}
use Rattle.std.proofs.lemmas.List.Sorted.{IsPermutation-refl, IsPermutation-trans, IsPermutation-cons, IsPermutation-append_left, IsPermutation-append_right, IsPermutation-append_comm, sum_by-IsPermutation}
use Rattle.avro_bin.specs.Value.{Value, Entries, row, entries, pairs, nodes, nodes_in, nodes_named, none_named, more_named}
use Rattle.avro_bin.specs.Reading.{Row, Names, has}
use Rattle.avro_bin.specs.Steps.{Push, Put, Steps}

abbrev pub Entry : Type 0
Entry = List ℕ × Value

abbrev pub cmp : List ℕ → List ℕ → Ordering
cmp = slice_cmp nat_cmp

abbrev pub sizes : List Value → ℕ
sizes vs = nodes_in (row vs)

abbrev pub sizes_named : List Entry → ℕ
sizes_named [] = 0
sizes_named (e ∷ es) = nodes e.1 + sizes_named es

sum_is : (es : List Entry) → sum_by (λ (e : Entry). nodes e.1) es ≡ sizes_named es
sum_is [] = refl
sum_is (e ∷ es) = sum_by-cons (λ (e : Entry). nodes e.1) e es ∙ ap (λ (n : ℕ). nodes e.1 + n) (sum_is es)

pub steps_append : {S A : Type 0} (Step : S → A → S → Type 0) (xs ys : List A) (s m t : S) → Steps Step s xs m → Steps Step m ys t → Steps Step s (xs ++ ys) t
steps_append Step [] ys s m t h g = subst (λ (u : _). Steps Step u ys t) (sym h) g
steps_append Step (x ∷ xs) ys s m t h g = (h.0, h.1, steps_append Step xs ys h.0 m t h.2 g)

pub steps_split : {S A : Type 0} (Step : S → A → S → Type 0) (xs ys : List A) (s t : S) → Steps Step s (xs ++ ys) t → (m : S) × Steps Step s xs m × Steps Step m ys t
steps_split Step [] ys s t h = (s, refl, h)
steps_split Step (x ∷ xs) ys s t h = let r = steps_split Step xs ys h.0 t h.2 in (r.0, (h.0, h.1, r.1), r.2)

pub steps_row : (vs : List Value) (s t : Row) → Steps Push s vs t → (t.0 ≡ s.0 ++ vs) × (s.1 ≡ sizes vs + t.1)
steps_row [] s t h = (ap (λ (r : Row). r.0) (sym h) ∙ sym (append-nil s.0), let e : s.1 ≡ t.1 = ap (λ (r : Row). r.1) h in omega (arith, e))
steps_row (v ∷ vs) s t h =
    let r = steps_row vs h.0 t h.2 in
    (r.0 ∙ ap (λ (ws : List Value). ws ++ vs) h.1.0 ∙ append_assoc s.0 (v ∷ []) vs, omega (arith, r.1, h.1.1))

pub row_steps : (vs : List Value) (front : List Value) (n left : ℕ) → n ≡ sizes vs + left → Steps Push (front, n) vs (front ++ vs, left)
row_steps [] front n left e = let m : n ≡ left = omega arith in let f : front ≡ front ++ [] = sym (append-nil front) in cc
row_steps (v ∷ vs) front n left e =
    ((front ++ v ∷ [], sizes vs + left), (refl, omega arith), subst (λ (ws : List Value). Steps Push (front ++ v ∷ [], sizes vs + left) vs (ws, left)) (append_assoc front (v ∷ []) vs) (row_steps vs (front ++ v ∷ []) (sizes vs + left) left refl))

pub nodes_entries : (es : List Entry) → nodes_named (entries es) ≡ sizes_named es
nodes_entries [] = refl
nodes_entries (e ∷ es) = ap (λ (n : ℕ). nodes e.1 + n) (nodes_entries es)

pub pairs-entries : (es : List Entry) → pairs (entries es) ≡ es
pairs-entries [] = refl
pairs-entries (e ∷ es) = ap (λ (fs : List Entry). e ∷ fs) (pairs-entries es)

pub entries-pairs : (es : Entries) → entries (pairs es) ≡ es
entries-pairs none_named = refl
entries-pairs (more_named n v es) = ap (more_named n v) (entries-pairs es)

pub sizes_named-permutation : (es fs : List Entry) → IsPermutation es fs → sizes_named fs ≡ sizes_named es
sizes_named-permutation es fs p = sym (sum_is fs) ∙ sum_by-IsPermutation (λ (e : Entry). nodes e.1) es fs p ∙ sum_is es

-- ---- an entry in its place

which : (o : Ordering) → (o ≡ Less) ⊎ ((o ≡ Equal) ⊎ (o ≡ Greater))
which Less = inl refl
which Equal = inr (inl refl)
which Greater = inr (inr refl)

not_there : (k : List ℕ) (e : Entry) (es : List Entry) → cmp k e.0 ≡ Equal → has k (e ∷ es) ≡ false → ⊥
not_there k e es h none = let b : has k (e ∷ es) ≡ true = rw h refl in cc

there_later : (k : List ℕ) (e : Entry) (es : List Entry) → cmp k e.0 ≡ Greater → has k (e ∷ es) ≡ false → has k es ≡ false
there_later k e es h none = let b : has k (e ∷ es) ≡ has k es = rw h refl in sym b ∙ none

pub insert_perm : (k : List ℕ) (v : Value) (es : List Entry) → has k es ≡ false → IsPermutation ((k, v) ∷ es) (insert_entry (slice_cmp nat_cmp) es k v)
insert_perm k v [] h = IsPermutation-refl _
insert_perm k v (e ∷ es) h = elim (which (cmp k e.0)) [
  | inl l ↦ rw l (IsPermutation-refl _)
  | inr r ↦ elim r [
    | inl q ↦ absurd (not_there k e es q h)
    | inr g ↦
        let swap : IsPermutation ((k, v) ∷ e ∷ es) (e ∷ (k, v) ∷ es) = IsPermutation-append_left es ((k, v) ∷ e ∷ []) (e ∷ (k, v) ∷ []) (IsPermutation-append_comm ((k, v) ∷ []) (e ∷ [])) in
        rw g (IsPermutation-trans _ _ _ swap (IsPermutation-cons e _ _ (insert_perm k v es (there_later k e es g h))))
  ]
]

all_insert : (P : List ℕ → Type 0) (k : List ℕ) (v : Value) (es : List Entry) → P k → AllByRecursion P (keys_of es) → AllByRecursion P (keys_of (insert_entry (slice_cmp nat_cmp) es k v))
all_insert P k v [] p all = (p, tt)
all_insert P k v (e ∷ es) p all = elim (which (cmp k e.0)) [
  | inl l ↦ rw l (p, (all.0, all.1))
  | inr r ↦ elim r [ inl q ↦ rw q (all.0, all.1) | inr g ↦ rw g (all.0, all_insert P k v es p all.1) ]
]

all_less : (k e : List ℕ) (ks : List (List ℕ)) → cmp k e ≡ Less → AllByRecursion (λ y. cmp e y ≡ Less) ks → AllByRecursion (λ y. cmp k y ≡ Less) ks
all_less k e [] h all = tt
all_less k e (x ∷ ks) h all = (nat_list_cmp_total.trans k e x h all.0, all_less k e ks h all.1)

pub sorted_none : IsStrictlySortedBy (slice_cmp nat_cmp) []
unfolding IsStrictlySortedBy
sorted_none = tt

pub insert_sorted : (k : List ℕ) (v : Value) (es : List Entry) → has k es ≡ false → IsStrictlySortedBy (slice_cmp nat_cmp) (keys_of es) → IsStrictlySortedBy (slice_cmp nat_cmp) (keys_of (insert_entry (slice_cmp nat_cmp) es k v))
unfolding IsStrictlySortedBy
insert_sorted k v [] h s = (tt, tt)
insert_sorted k v (e ∷ es) h s = elim (which (cmp k e.0)) [
  | inl l ↦ rw l ((l, all_less k e.0 (keys_of es) l s.0), (s.0, s.1))
  | inr r ↦ elim r [
    | inl q ↦ absurd (not_there k e es q h)
    | inr g ↦
        let flip : cmp e.0 k ≡ Less = nat_list_cmp_total.antisymm e.0 k ∙ ap ordering_reverse g in
        rw g (all_insert (λ y. cmp e.0 y ≡ Less) k v es flip s.0, insert_sorted k v es (there_later k e es g h) s.1)
  ]
]

pub moved : (e : Entry) (es s : List Entry) → has e.0 s ≡ false → IsPermutation ((e ∷ es) ++ s) (es ++ insert_entry (slice_cmp nat_cmp) s e.0 e.1)
moved e es s none =
    let front : IsPermutation ((e ∷ es) ++ s) (es ++ e ∷ s) = subst (λ (xs : List Entry). IsPermutation ((e ∷ es) ++ s) xs) (append_assoc es (e ∷ []) s) (IsPermutation-append_left s (e ∷ es) (es ++ e ∷ []) (IsPermutation-append_comm (e ∷ []) es)) in
    IsPermutation-trans _ _ _ front (IsPermutation-append_right es _ _ (insert_perm e.0 e.1 s none))

abbrev pub MadeOf : List Entry → Names → Names → Type 0
MadeOf es s t = IsPermutation (es ++ s.0) t.0 × IsStrictlySortedBy (slice_cmp nat_cmp) (keys_of t.0) × (s.1 ≡ sizes_named es + t.1)

pub steps_names : (es : List Entry) (s t : Names) → IsStrictlySortedBy (slice_cmp nat_cmp) (keys_of s.0) → Steps Put s es t → MadeOf es s t
steps_names [] s t sorted h = subst (MadeOf [] s) h (IsPermutation-refl s.0, sorted, omega arith)
steps_names (e ∷ es) s t sorted h =
    let p = h.1 in
    let sorted' : IsStrictlySortedBy (slice_cmp nat_cmp) (keys_of h.0.0) = subst (λ (fs : List Entry). IsStrictlySortedBy (slice_cmp nat_cmp) (keys_of fs)) (sym p.1) (insert_sorted e.0 e.1 s.0 p.0 sorted) in
    let r = steps_names es h.0 t sorted' h.2 in
    let front : IsPermutation ((e ∷ es) ++ s.0) (es ++ h.0.0) = subst (λ (fs : List Entry). IsPermutation ((e ∷ es) ++ s.0) (es ++ fs)) (sym p.1) (moved e es s.0 p.0) in
    (IsPermutation-trans _ _ _ front r.0, r.1, omega (arith, r.2, p.2))
