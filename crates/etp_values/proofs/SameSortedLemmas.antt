-- Lists in the order of their keys differ in some look-up.
use Rattle.std.proofs.Common.{◌≡◌, List, [], ◌∷◌, cond, Option, None, Some, refl, sym, ap, ◌∙◌, subst}
use Rattle.std.specs.declared.cmp.Ordering.{Ordering}
use Rattle.std.specs.declared.cmp.Ordering.TheVariants.{Less, Equal, Greater}
use Rattle.std.specs.Cmp.{IsTotalOrder, tied_itself}
use Rattle.std.specs.Ordering.{is_eq, ordering_reverse}
use Rattle.std.specs.List.{AllByRecursion}
use Rattle.std.specs.List.Sorted.{IsStrictlySortedBy}
use Rattle.std.specs.Map.{keys_of, lookup}
use Rattle.std.proofs.lemmas.Map.Keys.{sorted_head, sorted_tail}
use Rattle.std.proofs.lemmas.Map.Lookups.{CmpEqualImpliesEq}
use Rattle.std.proofs.lemmas.Option.{same_Some}

module _ {K : Type 0} (cmp : K → K → Ordering) (total : IsTotalOrder cmp) where
  lower : (q k : K) (ks : List K) → cmp q k ≡ Less → AllByRecursion (λ x. cmp k x ≡ Less) ks → AllByRecursion (λ x. cmp q x ≡ Less) ks
  lower q k [] l h = tt
  lower q k (x ∷ xs) l h = (total.trans q k x l h.0, lower q k xs l h.1)

  -- what is found under a name that is below the first of a list in order: nothing
  turned_round : (a b : K) → cmp a b ≡ Greater → cmp b a ≡ Less
  turned_round a b g = by (cmp b a) (total.antisymm a b)
    where
      by : (o : Ordering) → cmp a b ≡ ordering_reverse o → o ≡ Less
      by Less e = refl
      by Equal e = absurd (let f = sym g ∙ e in cc)
      by Greater e = absurd (let f = sym g ∙ e in cc)

module _ {K V : Type 0} (cmp : K → K → Ordering) (total : IsTotalOrder cmp) (exact : CmpEqualImpliesEq cmp) where
  abbrev at : K → List (K × V) → Option V
  at q es = lookup (λ k. is_eq (cmp q k)) es

  -- a name below all is not there
  below-none : (q : K) (es : List (K × V)) → AllByRecursion (λ k. cmp q k ≡ Less) (keys_of es) → at q es ≡ None
  below-none q [] h = refl
  below-none q (e ∷ es) h = ap (λ o. cond (is_eq o) (Some e.1) (at q es)) h.0 ∙ below-none q es h.1

  -- the first is found
  first_found : (x : K × V) (xs : List (K × V)) → at x.0 (x ∷ xs) ≡ Some x.1
  first_found x xs = ap (λ o. cond (is_eq o) (Some x.1) (at x.0 xs)) (tied_itself total x.0)

  -- a name below the first is absent
  before_first : (q : K) (y : K × V) (ys : List (K × V)) → IsStrictlySortedBy cmp (keys_of (y ∷ ys)) → cmp q y.0 ≡ Less → at q (y ∷ ys) ≡ None
  before_first q y ys t l = below-none q (y ∷ ys) (l, lower cmp total q y.0 (keys_of ys) l (sorted_head cmp y.0 (keys_of ys) t))

  -- the rest agrees too
  rest_agrees : (x : K × V) (xs ys : List (K × V)) → AllByRecursion (λ k. cmp x.0 k ≡ Less) (keys_of xs) → AllByRecursion (λ k. cmp x.0 k ≡ Less) (keys_of ys) → ((q : K) → at q (x ∷ xs) ≡ at q (x ∷ ys)) → (q : K) → at q xs ≡ at q ys
  rest_agrees x xs ys a b h q = by (cmp q x.0) refl (h q)
    where
      by : (o : Ordering) → cmp q x.0 ≡ o → cond (is_eq (cmp q x.0)) (Some x.1) (at q xs) ≡ cond (is_eq (cmp q x.0)) (Some x.1) (at q ys) → at q xs ≡ at q ys
      by Equal e k = let same = exact q x.0 e in subst (λ p. at p xs ≡ at p ys) (sym same) (below-none x.0 xs a ∙ sym (below-none x.0 ys b))
      by Less e k = subst (λ o. cond (is_eq o) (Some x.1) (at q xs) ≡ cond (is_eq o) (Some x.1) (at q ys)) e k
      by Greater e k = subst (λ o. cond (is_eq o) (Some x.1) (at q xs) ≡ cond (is_eq o) (Some x.1) (at q ys)) e k

  pub same-sorted : (xs ys : List (K × V)) → IsStrictlySortedBy cmp (keys_of xs) → IsStrictlySortedBy cmp (keys_of ys) → ((q : K) → lookup (λ k. is_eq (cmp q k)) xs ≡ lookup (λ k. is_eq (cmp q k)) ys) → xs ≡ ys
  same-sorted [] [] s t h = refl
  same-sorted [] (y ∷ ys) s t h = absurd (let e = h y.0 ∙ first_found y ys in cc)
  same-sorted (x ∷ xs) [] s t h = absurd (let e = sym (h x.0) ∙ first_found x xs in cc)
  same-sorted (x ∷ xs) (y ∷ ys) s t h = by (cmp x.0 y.0) refl (same-sorted xs ys (sorted_tail cmp x.0 (keys_of xs) s) (sorted_tail cmp y.0 (keys_of ys) t))
    where
      by : (o : Ordering) → cmp x.0 y.0 ≡ o → (((q : K) → at q xs ≡ at q ys) → xs ≡ ys) → x ∷ xs ≡ y ∷ ys
      by Less e rest = absurd (let f = sym (first_found x xs) ∙ h x.0 ∙ before_first x.0 y ys t e in cc)
      by Greater e rest = absurd (let f = sym (first_found y ys) ∙ sym (h y.0) ∙ before_first y.0 x xs s (turned_round cmp total x.0 y.0 e) in cc)
      by Equal e rest = let name = exact x.0 y.0 e in
          let value : Some x.1 ≡ Some y.1 = sym (first_found x xs) ∙ h x.0 ∙ ap (λ q. at q (y ∷ ys)) name ∙ first_found y ys in
          let one : x ≡ y = (λ j. (name j, same_Some x.1 y.1 value j)) in
          let after : AllByRecursion (λ k. cmp x.0 k ≡ Less) (keys_of ys) = subst (λ p. AllByRecursion (λ k. cmp p k ≡ Less) (keys_of ys)) (sym name) (sorted_head cmp y.0 (keys_of ys) t) in
          (λ j. one j ∷ rest (rest_agrees x xs ys (sorted_head cmp x.0 (keys_of xs) s) after (subst (λ p. (q : K) → at q (x ∷ xs) ≡ at q (p ∷ ys)) (sym one) h)) j)
