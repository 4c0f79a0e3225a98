-- Lists that are built item by item.
use Rattle.std.proofs.Common.{◌≡◌, ◌∙◌, ◌++◌, ℕ, List, [], ◌∷◌, map, sym, ap, subst, append_assoc}
use Rattle.std.specs.Cmp.Lexicographic.{slice_cmp}
use Rattle.std.specs.List.{AllByRecursion, flat_map}
use Rattle.std.specs.List.Sorted.{IsStrictlySortedBy}
use Rattle.std.specs.Ordering.{nat_cmp}

module _ {A : Type 0} where
  pub front_nil : (made xs all : List A) → made ≡ [] → xs ≡ all → made ++ xs ≡ all
  front_nil made xs all empty is = ap (λ (l : List A). l ++ xs) empty ∙ is

  pub front_more : (made next : List A) (x y : A) (xs ys all : List A) → xs ≡ x ∷ ys → made ++ xs ≡ all → next ≡ made ++ y ∷ [] → y ≡ x → next ++ ys ≡ all
  front_more made next x y xs ys all step before is same =
      ap (λ (l : List A). l ++ ys) (is ∙ ap (λ (z : A). made ++ z ∷ []) same) ∙ append_assoc made (x ∷ []) ys ∙ ap (λ (l : List A). made ++ l) (sym step) ∙ before

module _ {A B : Type 0} (f : A → List B) where
  pub flat_nil : (made : List B) (xs ys : List A) → made ≡ [] → xs ≡ ys → made ++ flat_map f xs ≡ flat_map f ys
  flat_nil made xs ys empty is = ap (λ (l : List B). l ++ flat_map f xs) empty ∙ ap (flat_map f) is

  pub flat_more : (made next : List B) (x y : A) (xs ys : List A) (all : List B) → xs ≡ x ∷ ys → made ++ flat_map f xs ≡ all → next ≡ made ++ f y → y ≡ x → next ++ flat_map f ys ≡ all
  flat_more made next x y xs ys all step before is same =
      ap (λ (l : List B). l ++ flat_map f ys) (is ∙ ap (λ (z : A). made ++ f z) same) ∙ append_assoc made (f x) (flat_map f ys) ∙ ap (λ (l : List A). made ++ flat_map f l) (sym step) ∙ before

-- ---- lists of items in the order of their keys

abbrev pub entry_key : {B : Type 0} → (List ℕ × B) → List ℕ
entry_key x = x.0

module _ {A : Type 0} (key : A → List ℕ) where
  abbrev pub Sorted : List A → Type 0
  Sorted xs = IsStrictlySortedBy (slice_cmp nat_cmp) (map key xs)

  pub first_sorted : (group own : List A) (xs ys : List (List A)) → xs ≡ group ∷ ys → AllByRecursion Sorted xs → own ≡ group → Sorted own
  first_sorted group own xs ys step all same =
      let both : AllByRecursion Sorted (group ∷ ys) = subst (λ (l : List (List A)). AllByRecursion Sorted l) step all in
      subst (λ (l : List A). Sorted l) (sym same) both.0

  pub rest_sorted : (group : List A) (xs ys : List (List A)) → xs ≡ group ∷ ys → AllByRecursion Sorted xs → AllByRecursion Sorted ys
  rest_sorted group xs ys step all =
      let both : AllByRecursion Sorted (group ∷ ys) = subst (λ (l : List (List A)). AllByRecursion Sorted l) step all in
      both.1
