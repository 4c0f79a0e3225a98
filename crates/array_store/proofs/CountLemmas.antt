-- What a filter keeps and what it drops make up the list.
use Rattle.std.proofs.Common.{ℕ, ◌+◌, Bool, true, false, cond, not, List, [], ◌∷◌, filter, length, ◌≡◌, arith}

one_more : {X : Type 0} (b : Bool) (x : X) (kept left : List X) (n : ℕ) → length kept + length left ≡ n
    → length (cond b (x ∷ kept) kept) + length (cond (not b) (x ∷ left) left) ≡ n + 1
one_more true x kept left n h = omega arith
one_more false x kept left n h = omega arith

pub counted : {X : Type 0} (p : X → Bool) (xs : List X) → length (filter p xs) + length (filter (λ x. not (p x)) xs) ≡ length xs
counted p [] = omega arith
counted p (x ∷ xs) = let e = one_more (p x) x (filter p xs) (filter (λ y. not (p y)) xs) (length xs) (counted p xs) in omega (arith, e)
