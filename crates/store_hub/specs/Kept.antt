-- What a pass keeps between two calls.
use Rattle.std.specs.Prelude.{◌≡◌, ◌==◌, ◌&&◌, ℕ, Bool, true, false, List, [], ◌∷◌, length, Some, None, if◌then◌else◌}
use Rattle.store_machine.specs.declared.journal.Entry.{Entry}
use Rattle.turn_book.specs.Lists.{own}
use Rattle.store_hub.specs.Words.{Known, by_of, enters_of}

-- whether the first of these entries is at n, and lets a session in
abbrev pub begins_at : ℕ → List (ℕ × Entry) → Bool
begins_at n [] = false
begins_at n (first ∷ more) = (first.0 == n) && enters_of first.1

-- whether there is one entry whose only place is n
abbrev pub is_alone : ℕ → ℕ → List ℕ → Bool
is_alone n entries [] = true
is_alone n entries (place ∷ []) = if place == n then entries == 1 else true
is_alone n entries (place ∷ next ∷ more) = true

-- the pass has this number and not the turn; this many entries that it has seen are its own, the first of which let it in at its number;
-- and if it was answered nothing since, that is the only one
abbrev pub IsKept : ℕ → ℕ → Known → Type 0
IsKept n entries v =
    (v.number ≡ Some n)
    × (v.held ≡ None)
    × (length (own by_of n v.seen) ≡ entries)
    × (begins_at n (own by_of n v.seen) ≡ true)
    × (is_alone n entries v.places ≡ true)
