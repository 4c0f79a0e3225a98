-- The entries of a journal that pass a test, by their places.
use Rattle.std.specs.Prelude.{ℕ, ◌≡◌, ◌+◌, Bool, List, [], ◌∷◌, ◌++◌, Option, Some, None, if◌then◌else◌, drop, find, length, nat_le}

-- their places in order, if the first entry has this place
abbrev pub places_where : {X : Type 0} → (X → Bool) → ℕ → List X → List ℕ
places_where test place [] = []
places_where test place (x ∷ xs) = if test x then place ∷ places_where test (place + 1) xs else places_where test (place + 1) xs

-- the place of the first of them
abbrev pub first_where : {X : Type 0} → (X → Bool) → ℕ → List X → Option ℕ
first_where test place [] = None
first_where test place (x ∷ xs) = if test x then Some place else first_where test (place + 1) xs

-- ---- laws

-- one more entry adds its place if it passes
abbrev pub PlacesGoOn : Type 0 → Type 0
PlacesGoOn X = (test : X → Bool) (xs : List X) (x : X)
    → places_where test 0 (xs ++ x ∷ []) ≡ (if test x then places_where test 0 xs ++ length xs ∷ [] else places_where test 0 xs)

-- the first of the places from one on is that of the first entry from there on that passes
abbrev pub FirstIsFound : Type 0 → Type 0
FirstIsFound X = (test : X → Bool) (from : ℕ) (xs : List X) → find (nat_le from) (places_where test 0 xs) ≡ first_where test from (drop from xs)
