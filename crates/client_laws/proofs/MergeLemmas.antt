-- Names that come after all existing ones: inserting them appends them.
use Rattle.std.proofs.Common.{◌≡◌, ℕ, List, [], ◌∷◌, ◌++◌, ap, ◌∙◌}
use Rattle.std.specs.declared.cmp.Ordering.{Ordering}
use Rattle.std.specs.declared.cmp.Ordering.TheVariants.{Less}
use Rattle.std.specs.Cmp.Lexicographic.{slice_cmp}
use Rattle.std.specs.List.{AllByRecursion}
use Rattle.std.specs.List.Sorted.{IsStrictlySortedBy}
use Rattle.std.specs.Map.{keys_of}
use Rattle.std.specs.Ordering.{nat_cmp}
use Rattle.client_parts.proofs.MergeLemmas.{put_behind}
use Rattle.client_parts.specs.Joining.{merged, with_all}
use Rattle.client_laws.specs.Parts.{Rise}

abbrev cmp : List ℕ → List ℕ → Ordering
cmp = slice_cmp nat_cmp

below_front : {A : Type 0} (P : List ℕ → Type 0) (a b : List (List ℕ × A)) → AllByRecursion P (keys_of (a ++ b)) → AllByRecursion P (keys_of a)
below_front P [] b h = tt
below_front P (x ∷ a) b h = (h.0, below_front P a b h.1)

pub front_rises : {A : Type 0} (a b : List (List ℕ × A)) → Rise (a ++ b) → Rise a
unfolding IsStrictlySortedBy
front_rises [] b h = tt
front_rises (x ∷ a) b h = (below_front (λ y. cmp x.0 y ≡ Less) a b h.0, front_rises a b h.1)

-- entries after others are put at their end
pub merged_behind : {A : Type 0} (xs ys : List (List ℕ × A)) → Rise (xs ++ ys) → merged xs ys ≡ xs ++ ys
merged_behind xs ys o = ap (λ h. with_all h ys) (put_behind [] xs (front_rises xs ys o)) ∙ put_behind xs ys o
