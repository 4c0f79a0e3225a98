-- What one turn does to the journal and to what is kept.
use Rattle.std.specs.Prelude.{◌≡◌, ℕ, ℤ, true, List, [], ◌++◌, length}
use Rattle.std.specs.List.{AllByRecursion}
use Rattle.server_config.specs.declared.config.Config.{Config}
use Rattle.store_machine.specs.declared.call.StoreCall.{StoreCall}
use Rattle.store_machine.specs.declared.journal.Act.TheVariants.{Enter}
use Rattle.store_machine.specs.declared.journal.Entry.{Entry}
use Rattle.store_machine.specs.Answers.{added, has_room_for}
use Rattle.store_machine.specs.Laws.{OneOrNone, IsEntryOf}
use Rattle.turn_book.specs.Lists.{own}
use Rattle.store_hub.specs.Words.{Known, by_of}
use Rattle.store_hub.specs.Kept.{IsKept}

-- the journal has what the call adds: one entry of the session or none
pub record Adds (config : Config) (log : List Entry) (n nth : ℕ) (at : ℤ) (call : StoreCall) (after : List Entry) : Type 0 where
  pub whole : after ≡ log ++ added config log n nth at call
  pub one : OneOrNone (added config log n nth at call)
  pub own : AllByRecursion (IsEntryOf n nth at) (added config log n nth at call)

-- a session is let in with this number, which is its place, in a journal that has room and no entry under it
pub record LetsIn (config : Config) (log : List Entry) (n : ℕ) : Type 0 where
  pub number : n ≡ length log
  pub room : has_room_for config log Enter ≡ true
  pub own : own by_of n log ≡ []

-- whatever number and count the pass had, it has still
abbrev pub StaysKept : Known → Known → Type 0
StaysKept v w = (n entries : ℕ) → IsKept n entries v → IsKept n entries w
