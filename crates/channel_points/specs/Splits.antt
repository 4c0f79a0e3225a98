-- Lists in order, and lists that a test splits in two.
use Rattle.std.specs.Prelude.{ℕ, ◌≡◌, ◌≤◌, Bool, List, [], ◌∷◌, filter, not, take, drop, length}
use Rattle.std.specs.List.{AllByRecursion}

-- each item is related to all those after it
abbrev pub RisesBy : {X : Type 0} → (X → X → Type 0) → List X → Type 0
RisesBy R [] = Unit {0}
RisesBy R (x ∷ xs) = AllByRecursion (R x) xs × RisesBy R xs

-- the first `count` items are those that pass, and the others are those that don't
pub record IsSplit {X : Type 0} (p : X → Bool) (xs : List X) (count : ℕ) : Type 0 where
  pub front : take count xs ≡ filter p xs
  pub back : drop count xs ≡ filter (λ x. not (p x)) xs
  pub within : count ≤ length xs
