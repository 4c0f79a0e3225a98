-- The places of a key, as marks.
use Rattle.std.specs.Prelude.{ℕ, ◌+◌, ◌==◌, ◌&&◌, ◌||◌, nat_le, Bool, List, [], ◌∷◌}
use Rattle.std.specs.List.{list_any}

-- marks of the places from `first` on: those that were set, and those of these places from `from` on
abbrev pub marked_places : ℕ → ℕ → List ℕ → List Bool → List Bool
marked_places from first places [] = []
marked_places from first places (b ∷ bs) = (b || (nat_le from first && list_any (λ p. p == first) places)) ∷ marked_places from (first + 1) places bs
