-- A list up to one of its items, the index of an item, a slice by its length, and two joined lists by their end: for the crates above.
use Rattle.std.proofs.Common.{◌≡◌, ◌<◌, ◌+◌, ◌-◌, ℕ, zero, suc, List, [], ◌∷◌, ◌++◌, take, drop, slice_range, length, Some, IsSomeAnd, refl, arith, ap, sym, length-append}
use Rattle.std.specs.List.{slice_get}

-- the item at an index comes before the rest
pub drop_item : {X : Type 0} (xs : List X) (i : ℕ) (x : X) → slice_get xs i ≡ Some x → drop i xs ≡ x ∷ drop (suc i) xs
drop_item [] i x at = absurd (cc at)
drop_item (y ∷ ys) zero x at = cc at
drop_item (y ∷ ys) (suc i) x at = drop_item ys i x at

-- an index at which there is an item is below the length
pub below_length : {X : Type 0} (P : X → Type 0) (xs : List X) (k : ℕ) → IsSomeAnd (slice_get xs k) P → k < length xs
below_length P [] k h = absurd h
below_length P (x ∷ xs) zero h = omega arith
below_length P (x ∷ xs) (suc k) h = let rest = below_length P xs k h in omega (arith, rest)

-- a slice of this length from an index on
pub range_taken : {X : Type 0} (xs : List X) (start n : ℕ) → slice_range xs start (start + n) ≡ take n (drop start xs)
range_taken xs start n = let e : (start + n) - start ≡ n = omega arith in ap (λ (k : ℕ). take k (drop start xs)) e

-- the last item of two joined lists, if the second has one
pub record EndsIn {X : Type 0} (left front rest : List X) (x : X) : Type 0 where
  pub shorter : List X
  pub split : front ≡ shorter ++ x ∷ []
  pub before : rest ≡ left ++ shorter

pub end_of : {X : Type 0} (left front rest : List X) (x : X) → 0 < length front → left ++ front ≡ rest ++ x ∷ [] → EndsIn left front rest x
end_of [] front rest x some h = record { shorter = rest; split = h; before = refl }
end_of (l ∷ left) [] [] x some h = absurd (omega arith)
end_of (l ∷ left) (f ∷ front) [] x some h =
    let none : left ++ f ∷ front ≡ [] = cc in
    absurd (omega (arith, length-append left (f ∷ front), ap length none))
end_of (l ∷ left) front (r ∷ rest) x some h =
    let first : l ≡ r = cc in
    let others : left ++ front ≡ rest ++ x ∷ [] = cc in
    let ends = end_of left front rest x some others in
    record { shorter = ends.shorter; split = ends.split; before = (λ j. sym first j ∷ ends.before j) }
