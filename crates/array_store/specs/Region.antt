-- Regions of arrays: a range of indexes in each dimension.
use Rattle.std.specs.Prelude.{ℕ, ◌+◌, ◌≡◌, ◌≤◌, ℤ, pos, Bool, true, false, ◌&&◌, nat_le, List, [], ◌∷◌, map, slice_get, slice_set}
use Rattle.std.specs.List.{filter_map, flat_map, range_with_len}
use Rattle.array_store.specs.Shape.{place}

-- a start and a count that are not negative and whose sum does not exceed the dimension
abbrev pub is_span : ℤ → ℤ → ℤ → Bool
is_span (pos d) (pos s) (pos c) = nat_le (s + c) d
is_span d s c = false

-- a start and a count in each dimension
abbrev pub is_region : List ℤ → List ℤ → List ℤ → Bool
is_region [] [] [] = true
is_region (d ∷ ds) (s ∷ ss) (c ∷ cs) = is_span d s c && is_region ds ss cs
is_region ds ss cs = false

-- the indexes of a region, in row-major order
abbrev pub indexes : List ℕ → List ℕ → List (List ℕ)
indexes [] cs = [] ∷ []
indexes (s ∷ ss) [] = [] ∷ []
indexes (s ∷ ss) (c ∷ cs) = flat_map (λ i. map (λ is. i ∷ is) (indexes ss cs)) (range_with_len s c)

-- the elements at these indexes
abbrev pub elements_at : {X : Type 0} → List ℕ → List X → List (List ℕ) → List X
elements_at ds xs js = filter_map (λ j. slice_get xs (place ds j)) js

-- the elements after one value was written at each of these indexes
abbrev pub written_at : {X : Type 0} → List ℕ → List X → List (List ℕ) → List X → List X
written_at ds xs [] ys = xs
written_at ds xs (j ∷ js) [] = xs
written_at ds xs (j ∷ js) (y ∷ ys) = written_at ds (slice_set xs (place ds j) y) js ys

-- the elements of a region of an array of these dimensions
unfoldable pub sliced : {X : Type 0} → List ℕ → List ℕ → List ℕ → List X → List X
sliced ds ss cs xs = elements_at ds xs (indexes ss cs)

-- the elements of the array, with these values in the region
unfoldable pub patched : {X : Type 0} → List ℕ → List ℕ → List ℕ → List X → List X → List X
patched ds ss cs xs ys = written_at ds xs (indexes ss cs) ys

-- a region's first dimension, with its start and its count, and the dimensions that follow
pub record IsOuter (ds ss cs : List ℕ) (d s c : ℕ) (di si ci : List ℕ) : Type 0 where
  pub dims : ds ≡ d ∷ di
  pub starts : ss ≡ s ∷ si
  pub counts : cs ≡ c ∷ ci
  pub within : s + c ≤ d
