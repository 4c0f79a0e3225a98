-- Lists of numbers, and of entries with their writers.
use Rattle.std.specs.Prelude.{◌≡◌, ◌==◌, ℕ, ◌+◌, leb, cond, List, [], ◌∷◌, map, length, Option, Some, None, if◌then◌else◌}
use mathlib.Core.Option.{some}
use lib.ListN.{get_elem?}
use Rattle.etp_values.specs.Weight.{weigh}

-- P holds for each element
abbrev pub Each : {X : Type 0} → (X → Type 0) → List X → Type 0
Each {X} P xs = (i : ℕ) (x : X) → get_elem? xs i ≡ some x → P x

-- 1 if x is n, else 0
abbrev pub one_if : ℕ → ℕ → ℕ
one_if n x = if x == n then 1 else 0

-- how often n occurs in the list
abbrev pub occurrences : ℕ → List ℕ → ℕ
occurrences n xs = weigh (one_if n) xs

-- the list without the first n in it
abbrev pub without : ℕ → List ℕ → List ℕ
without n [] = []
without n (x ∷ xs) = if x == n then xs else x ∷ without n xs

-- the list without one of each of these, if it is there
abbrev pub without_each : List ℕ → List ℕ → List ℕ
without_each [] xs = xs
without_each (n ∷ ns) xs = without_each ns (without n xs)

-- the longer of two lists
abbrev pub longer : {X : Type 0} → List X → List X → List X
longer xs ys = cond (leb (length ys) (length xs)) xs ys

-- the last element, if there is one
abbrev pub last : {X : Type 0} → List X → Option X
last [] = None
last (x ∷ []) = Some x
last (x ∷ (y ∷ ys)) = last (y ∷ ys)

-- the entries by n, with their places counted from k
abbrev pub own_from : {E : Type 0} → (E → ℕ) → ℕ → ℕ → List E → List (ℕ × E)
own_from by n k [] = []
own_from by n k (e ∷ es) = if by e == n then (k, e) ∷ own_from by n (k + 1) es else own_from by n (k + 1) es

-- the entries by n, with their places
abbrev pub own : {E : Type 0} → (E → ℕ) → ℕ → List E → List (ℕ × E)
own by n log = own_from by n 0 log

-- the places of the entries by a writer, if there is one
abbrev pub own_places : {E : Type 0} → (E → ℕ) → Option ℕ → List E → List ℕ
own_places by None log = []
own_places by (Some n) log = map (λ p. p.0) (own by n log)
