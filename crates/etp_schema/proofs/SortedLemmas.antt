-- Pairs in the order of their names: one more in its place, and that there is one such order.
use Rattle.std.proofs.Common.{◌≡◌, ℕ, Bool, true, false, List, [], ◌∷◌, Option, Some, None, refl, sym, ap, subst, ◌∙◌, ◌⊎◌, inl, inr}
use Rattle.std.specs.Ordering.{nat_cmp, is_eq, ordering_reverse}
use Rattle.std.specs.declared.cmp.Ordering.{Ordering}
use Rattle.std.specs.declared.cmp.Ordering.TheVariants.{Less, Equal, Greater}
use Rattle.std.specs.Cmp.Lexicographic.{slice_cmp, nat_list_cmp_total, nat_list_eq_equiv, texts_ties}
use Rattle.std.specs.List.{AllByRecursion, IsDistinct}
use Rattle.std.specs.List.Sorted.{IsStrictlySortedBy, IsPermutation}
use Rattle.std.specs.Map.{keys_of, lookup}
use Rattle.std.specs.BTreeMap.{insert_entry}
use Rattle.std.specs.Str.{bytes_eq}
use Rattle.std.proofs.lemmas.List.Sorted.{IsPermutation-refl, IsPermutation-trans, IsPermutation-sym, IsPermutation-cons, IsPermutation-map, IsPermutation-append_left, IsPermutation-append_comm, Contains-permutation}
use Rattle.std.proofs.lemmas.Map.Keys.{IsDistinct-from_sorted, IsDistinct-IsPermutation}
use Rattle.std.proofs.lemmas.Map.Views.{Contains-from_lookup, lookup-from_Contains}
use Rattle.etp_values.specs.SameUri.{text_is}
use Rattle.etp_values.proofs.NameLemmas.{found_alike}
use Rattle.avro_bin.specs.Reading.{has}

abbrev pub cmp : List ℕ → List ℕ → Ordering
cmp = slice_cmp nat_cmp

-- the names of pairs rise
abbrev pub Rise : {A : Type 0} → List (List ℕ × A) → Type 0
Rise es = IsStrictlySortedBy (slice_cmp nat_cmp) (keys_of es)

-- no two pairs have the same name
abbrev pub Differ : {A : Type 0} → List (List ℕ × A) → Type 0
Differ es = IsDistinct bytes_eq (keys_of es)

pub none_rise : (A : Type 0) → Rise {A = A} []
unfolding IsStrictlySortedBy
none_rise A = tt

pub differ_if_rise : {A : Type 0} (es : List (List ℕ × A)) → Rise es → Differ es
differ_if_rise es rise = subst (λ (same : List ℕ → List ℕ → Bool). IsDistinct same (keys_of es)) (λ j p q. sym (texts_ties p q) j) (IsDistinct-from_sorted cmp (keys_of es) rise)

pub still_differ : {A : Type 0} (es fs : List (List ℕ × A)) → IsPermutation es fs → Differ es → Differ fs
still_differ es fs moved apart = IsDistinct-IsPermutation bytes_eq nat_list_eq_equiv.symm (keys_of es) (keys_of fs) (IsPermutation-map (λ e. e.0) es fs moved) apart

-- a name that differs from all others is not found
pub not_found : {A : Type 0} (k : List ℕ) (es : List (List ℕ × A)) → AllByRecursion (λ y. bytes_eq k y ≡ false) (keys_of es) → has k es ≡ false
not_found k [] all = refl
not_found k (e ∷ es) all = let other : is_eq (cmp k e.0) ≡ false = sym (texts_ties k e.0) ∙ all.0 in rw other (not_found k es all.1)

-- ---- one more pair in its place

which : (o : Ordering) → (o ≡ Less) ⊎ ((o ≡ Equal) ⊎ (o ≡ Greater))
which Less = inl refl
which Equal = inr (inl refl)
which Greater = inr (inr refl)

all_less : (k e : List ℕ) (ks : List (List ℕ)) → cmp k e ≡ Less → AllByRecursion (λ y. cmp e y ≡ Less) ks → AllByRecursion (λ y. cmp k y ≡ Less) ks
all_less k e [] h all = tt
all_less k e (x ∷ ks) h all = (nat_list_cmp_total.trans k e x h all.0, all_less k e ks h all.1)

module _ {A : Type 0} where
  not_there : (k : List ℕ) (e : List ℕ × A) (es : List (List ℕ × A)) → cmp k e.0 ≡ Equal → has k (e ∷ es) ≡ false → ⊥
  not_there k e es h none = let b : has k (e ∷ es) ≡ true = rw h refl in cc

  there_later : (k : List ℕ) (e : List ℕ × A) (es : List (List ℕ × A)) → cmp k e.0 ≡ Greater → has k (e ∷ es) ≡ false → has k es ≡ false
  there_later k e es h none = let b : has k (e ∷ es) ≡ has k es = rw h refl in sym b ∙ none

  pub insert_moves : (k : List ℕ) (v : A) (es : List (List ℕ × A)) → has k es ≡ false → IsPermutation ((k, v) ∷ es) (insert_entry (slice_cmp nat_cmp) es k v)
  insert_moves k v [] h = IsPermutation-refl _
  insert_moves k v (e ∷ es) h = elim (which (cmp k e.0)) [
    | inl l ↦ rw l (IsPermutation-refl _)
    | inr r ↦ elim r [
      | inl q ↦ absurd (not_there k e es q h)
      | inr g ↦
          let swap : IsPermutation ((k, v) ∷ e ∷ es) (e ∷ (k, v) ∷ es) = IsPermutation-append_left es ((k, v) ∷ e ∷ []) (e ∷ (k, v) ∷ []) (IsPermutation-append_comm ((k, v) ∷ []) (e ∷ [])) in
          rw g (IsPermutation-trans _ _ _ swap (IsPermutation-cons e _ _ (insert_moves k v es (there_later k e es g h))))
    ]
  ]

  all_insert : (P : List ℕ → Type 0) (k : List ℕ) (v : A) (es : List (List ℕ × A)) → P k → AllByRecursion P (keys_of es) → AllByRecursion P (keys_of (insert_entry (slice_cmp nat_cmp) es k v))
  all_insert P k v [] p all = (p, tt)
  all_insert P k v (e ∷ es) p all = elim (which (cmp k e.0)) [
    | inl l ↦ rw l (p, (all.0, all.1))
    | inr r ↦ elim r [ inl q ↦ rw q (all.0, all.1) | inr g ↦ rw g (all.0, all_insert P k v es p all.1) ]
  ]

  pub insert_rises : (k : List ℕ) (v : A) (es : List (List ℕ × A)) → has k es ≡ false → Rise es → Rise (insert_entry (slice_cmp nat_cmp) es k v)
  unfolding IsStrictlySortedBy
  insert_rises k v [] h s = (tt, tt)
  insert_rises k v (e ∷ es) h s = elim (which (cmp k e.0)) [
    | inl l ↦ rw l ((l, all_less k e.0 (keys_of es) l s.0), (s.0, s.1))
    | inr r ↦ elim r [
      | inl q ↦ absurd (not_there k e es q h)
      | inr g ↦
          let flip : cmp e.0 k ≡ Less = nat_list_cmp_total.antisymm e.0 k ∙ ap ordering_reverse g in
          rw g (all_insert (λ y. cmp e.0 y ≡ Less) k v es flip s.0, insert_rises k v es (there_later k e es g h) s.1)
    ]
  ]

-- ---- the order is one

found-moved : {A : Type 0} (es fs : List (List ℕ × A)) → Differ es → Differ fs → IsPermutation es fs → (q : List ℕ) → lookup (bytes_eq q) es ≡ lookup (bytes_eq q) fs
found-moved {A} es fs apart there moved q = by (lookup (bytes_eq q) es) (lookup (bytes_eq q) fs) refl refl
  where
    by : (v w : Option A) → lookup (bytes_eq q) es ≡ v → lookup (bytes_eq q) fs ≡ w → lookup (bytes_eq q) es ≡ lookup (bytes_eq q) fs
    by (Some v) w e f = e ∙ sym (lookup-from_Contains nat_list_eq_equiv q v fs there (Contains-permutation es fs (q, v) moved (Contains-from_lookup text_is q v es e)))
    by None (Some w) e f = lookup-from_Contains nat_list_eq_equiv q w es apart (Contains-permutation fs es (q, w) (IsPermutation-sym es fs moved) (Contains-from_lookup text_is q w fs f)) ∙ sym f
    by None None e f = e ∙ sym f

pub one_order : {A : Type 0} (es fs : List (List ℕ × A)) → Rise es → Rise fs → IsPermutation es fs → es ≡ fs
one_order es fs s t moved = found_alike es fs s t (found-moved es fs (differ_if_rise es s) (differ_if_rise fs t) moved)
