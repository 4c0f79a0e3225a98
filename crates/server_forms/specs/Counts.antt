-- How many entries are under each place.
use Rattle.std.specs.Prelude.{◌≡◌, ◌<◌, ◌+◌, ℕ, List, length, slice_index, drop}
use Rattle.store_machine.specs.Legal.{own}
use Rattle.store_machine.specs.declared.journal.Entry.{Entry}

-- at each place the number of the entries that are under it
pub record Counts (journal : List Entry) (counts : List ℕ) : Type 0 where
  pub long : length counts ≡ length journal
  pub each : (place : ℕ) → place < length journal → slice_index counts place ≡ length (own place journal)

-- what is counted so far and what is not, from this place of the journal on, are all
pub record CountsSoFar (journal : List Entry) (next : ℕ) (counts : List ℕ) : Type 0 where
  pub long : length counts ≡ length journal
  pub each : (place : ℕ) → place < length journal → slice_index counts place + length (own place (drop next journal)) ≡ length (own place journal)
