-- What a call leaves in what its pass knows.
use Rattle.std.specs.Prelude.{◌≡◌, ◌≤◌, ℕ, ℤ, true, false, List, [], ◌∷◌, length, Some}
use mathlib.Core.List.{IsPrefix}
use Rattle.server_config.specs.declared.config.Config.{Config}
use Rattle.store_machine.specs.declared.call.StoreCall.{StoreCall}
use Rattle.store_machine.specs.declared.call.Answer.{Answer}
use Rattle.store_machine.specs.declared.journal.Act.TheVariants.{Enter}
use Rattle.store_machine.specs.declared.journal.Entry.{Entry}
use Rattle.store_machine.specs.Answers.{answered, added, has_room_for}
use Rattle.turn_book.specs.Lists.{Each, own}
use Rattle.turn_book.specs.Rules.{Sound}
use Rattle.turn_book.specs.Steps.{fresh_view, marked, hearing, released, missing, wrote, joined}
use Rattle.store_hub.specs.declared.tried.Tried.{Tried}
use Rattle.store_hub.specs.declared.tried.Tried.TheVariants.{Done, Busy}
use Rattle.store_hub.specs.Words.{Known, by_of, enters_of}

-- the turn was taken once: a look at the journal, and then the entry, if there is one
abbrev pub noted : List Entry → List Entry → Known → Known
noted log [] v = released (marked log (length log) v)
noted log (e ∷ es) v = wrote e (marked log (length log) v)

-- the call was answered at a journal that begins with all that was seen, is no shorter than any length that was heard, and
-- has no further entry of the session; with the entry that the call adds, it is what is seen now; and nothing else was noted
-- but takes that found the turn taken
pub record Answers (config : Config) (n nth : ℕ) (at : ℤ) (call : StoreCall) (v : Known) (a : Answer) (w : Known) : Type 0 where
  pub log : List Entry
  pub missed : ℕ
  pub before : IsPrefix v.seen log
  pub heard : Each (λ n. n ≤ length log) v.heard
  pub more : v.missed ≤ missed
  pub own : own by_of n log ≡ own by_of n v.seen
  pub answer : a ≡ answered config log call
  pub view : w ≡ noted log (added config log n nth at call) (record v { missed = missed })

-- memory ran out: the turn was taken once, and nothing added
pub record Refuses (n : ℕ) (v w : Known) : Type 0 where
  pub log : List Entry
  pub missed : ℕ
  pub before : IsPrefix v.seen log
  pub heard : Each (λ n. n ≤ length log) v.heard
  pub more : v.missed ≤ missed
  pub own : own by_of n log ≡ own by_of n v.seen
  pub view : w ≡ noted log [] (record v { missed = missed })

-- an attempt: the call was answered, or its one take found the turn taken, and the call comes back
abbrev pub Tries : Config → ℕ → ℕ → ℤ → StoreCall → Known → Tried → Known → Type 0
Tries config n nth at call v (Done a) w = Answers config n nth at call v a w
Tries config n nth at call v (Busy c) w = (c ≡ call) × (w ≡ missing v)

-- ---- entering

-- the entry that lets a session in
abbrev pub entering : ℕ → ℤ → Entry
entering n at = record { by = n; nth = 0; at = at; act = Enter }

-- a session was let in by an entry after all that was seen, at a journal that had room and in which there is nothing under its number; its
-- pass has seen as much
pub record Enters (config : Config) (at : ℤ) (v : Known) (n : ℕ) (w : Known) : Type 0 where
  pub log : List Entry
  pub missed : ℕ
  pub before : IsPrefix v.seen log
  pub number : n ≡ length log
  pub room : has_room_for config log Enter ≡ true
  pub own : own by_of n log ≡ []
  pub view : w ≡ noted log (entering n at ∷ []) (record (fresh_view (Some config) v.seen) { missed = missed })

-- the pass has now seen this journal, and has looked once without the turn
pub record SeesMore (log : List Entry) (v w : Known) : Type 0 where
  pub front : ℕ
  pub before : IsPrefix v.seen log
  pub least : length log ≤ front
  pub view : w ≡ hearing front (record v { seen = log; olds = v.seen ∷ log ∷ [] })
  pub sound : Sound by_of enters_of w

-- no session was let in, and the pass has seen the journal of that moment
abbrev pub Widens : Known → Known → Type 0
Widens v w = (log : List Entry) × SeesMore log v w

-- that journal had no room for the entry
abbrev pub FindsFull : Config → Known → Known → Type 0
FindsFull config v w = (log : List Entry) × SeesMore log v w × (has_room_for config log Enter ≡ false)

-- ---- meeting

-- the pass with the view w was met: what is seen now begins with what each of the two had seen
pub record Meets (v w u : Known) : Type 0 where
  pub front : ℕ
  pub view : u ≡ hearing front (joined v w)
  pub least : length u.seen ≤ front
  pub first : IsPrefix v.seen u.seen
  pub second : IsPrefix w.seen u.seen
  pub sound : Sound by_of enters_of u
