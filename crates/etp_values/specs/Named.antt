-- Values under names.
use Rattle.std.specs.Prelude.{ℕ, ◌≡◌, ◌+◌, ◌<◌, false, List, [], Option, Some, None, length, get_or, IsPermutation}
use Rattle.std.specs.Ordering.{nat_cmp, is_lt}
use Rattle.std.specs.Cmp.Lexicographic.{slice_cmp}
use Rattle.std.specs.Str.{bytes_eq}
use Rattle.std.specs.List.{IsDistinct}
use Rattle.std.specs.Map.{keys_of}

-- the same pairs in the order of their names, or none if a name occurs twice
abbrev pub OrdersPairs : {T : Type 0} → List (List ℕ × T) → Option (List (List ℕ × T)) → Type 0
OrdersPairs items (Some named) = IsPermutation items named
OrdersPairs items None = ¬ IsDistinct bytes_eq (keys_of items)

-- some name is not below the next
abbrev pub StandsStill : List (List ℕ) → Type 0
StandsStill names = (k : ℕ) × (k + 1 < length names) × (is_lt (slice_cmp nat_cmp (get_or names k []) (get_or names (k + 1) [])) ≡ false)
