-- The shapes of arrays: their dimensions, and where their elements are.
use Rattle.std.specs.Prelude.{ℕ, ◌+◌, ◌*◌, ℤ, pos, negsuc, Bool, true, false, List, [], ◌∷◌, map}

-- a non-negative number
abbrev pub size : ℤ → ℕ
size (pos n) = n
size (negsuc n) = 0

-- non-negative numbers
abbrev pub sizes : List ℤ → List ℕ
sizes zs = map size zs

-- a number is negative
abbrev pub is_negative : ℤ → Bool
is_negative (pos n) = false
is_negative (negsuc n) = true

-- how many elements an array of these dimensions has
abbrev pub volume : List ℕ → ℕ
volume [] = 1
volume (d ∷ ds) = d * volume ds

-- where the element at an index is: the indexes are compared from the first dimension on
abbrev pub place : List ℕ → List ℕ → ℕ
place [] is = 0
place (d ∷ ds) [] = 0
place (d ∷ ds) (i ∷ is) = i * volume ds + place ds is
