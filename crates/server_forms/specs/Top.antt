-- What the top call answers, by all that it was given and left.
use Rattle.std.specs.Prelude.{◌≡◌, ◌⊎◌, ◌+◌, ◌≤◌, ℕ, ℤ, Bool, true, false, List, [], ◌∷◌, drop, Option, None, Some, IfSome, Ok}
use Rattle.std.specs.Io.KnownBytes.{Keeps}
use Rattle.chan_defs.specs.Config.{defs}
use Rattle.server_config.specs.declared.config.Config.{Config as Settings}
use Rattle.config_file.specs.Settings.{IsNoConfig}
use Rattle.etp_outside.specs.Doors.{Back}
use Rattle.etp_outside.specs.Faults.{Rose}
use Rattle.etp_outside.specs.Told.{Told}
use Rattle.etp_outside.specs.declared.status.Status.{Status}
use Rattle.etp_outside.specs.declared.status.Status.TheVariants as outcome
use Rattle.etp_serve.specs.Accepted.{IsReached}
use Rattle.etp_serve.specs.Closing.{ServedOver, entered}
use Rattle.etp_serve.specs.declared.served.Served.{Served}
use Rattle.etp_serve.specs.declared.served.Served.TheVariants as why
use Rattle.gathered_text.specs.Writing.{Writes}
use Rattle.gathered_text.specs.declared.writing.Wrote.{Wrote}
use Rattle.gathered_text.specs.declared.writing.Wrote.TheVariants.{Whole, WriteFault, NoMemory}
use Rattle.store_machine.specs.Answers.{has_room_for}
use Rattle.store_hub.specs.Words.{by_of}
use Rattle.store_machine.specs.Legal.{Legal, door as entry_of_door}
use Rattle.store_machine.specs.declared.journal.Act.TheVariants.{Enter}
use Rattle.store_machine.specs.declared.journal.Entry.{Entry}
use Rattle.turn_book.specs.Lists.{own}
use Rattle.server_forms.specs.Report.{report}
use Rattle.server_forms.specs.Words.{Command}

-- what a listener reveals before a call and after it: how many links it gave out, and which it took back
pub record Door : Type 0 where
  pub given : ℕ
  pub now : ℕ
  pub backs : Option (List Back)
  pub taken : Option (List Back)

-- a listener that reveals this before a call and after it
abbrev pub door_of : ℕ → ℕ → Option (List Back) → Option (List Back) → Door
door_of given now backs taken = record { given = given; now = now; backs = backs; taken = taken }

-- links were given out only by a listener that was told to listen at this address, and at no other since, if it reveals where it listens
abbrev pub ListensAt : List ℕ → ℕ → ℕ → Option (List ℕ) → Option (List ℕ) → Type 0
ListensAt address given now before place = (now ≡ given) ⊎ Told before place (λ old new. new ≡ address)

-- the same for the address of a command
abbrev pub ListensThere : Option Command → ℕ → ℕ → Option (List ℕ) → Option (List ℕ) → Type 0
ListensThere None given now before place = now ≡ given
ListensThere (Some command) given now before place = ListensAt command.address given now before place

-- what an output holds before a call and after it, and how often it had failed before and has after it
pub record Output : Type 0 where
  pub before : Option (List ℕ)
  pub after : Option (List ℕ)
  pub faults : ℕ
  pub count : ℕ

-- an output that reveals this before a call and after it
abbrev pub output_of : Option (List ℕ) → Option (List ℕ) → ℕ → ℕ → Output
output_of before after faults count = record { before = before; after = after; faults = faults; count = count }

-- no link was given out or taken back, and nothing was written
pub record Untouched (door : Door) (output : Output) : Type 0 where
  pub given : door.now ≡ door.given
  pub backs : door.taken ≡ door.backs
  pub written : Keeps output.before output.after

-- the status by why no more links were served; if as many were served as could be, what came of the report decides
abbrev pub status_of : Served → Wrote → Status
status_of why.Stopped Whole = outcome.Done
status_of why.Stopped WriteFault = outcome.WriteFault
status_of why.Stopped NoMemory = outcome.NoMemory
status_of why.ListenFault reported = outcome.ListenFault
status_of why.NoMemory reported = outcome.NoMemory

-- as many sessions were let in after the first entry as links were given out, or the journal has no room for another
abbrev pub HasEntered : Settings → List Entry → ℕ → ℕ → Type 0
HasEntered config journal given now = (now ≤ given + entered (drop 1 journal)) ⊎ (has_room_for config journal Enter ≡ false)

-- Links were served from one new store. There is an answer for each link that was given out, over the journal that the store had in the
-- end, which is legal, and in which the server itself has no entry but its first; and of the report of that journal all was written, or a
-- front: if the output failed, or memory ran out
pub record ServesWith (status : Status) (config : Settings) (test : List ℤ → Bool) (door : Door) (output : Output) : Type 0 where
  pub end : Served
  pub reported : Wrote
  pub journal : List Entry
  pub legal : Legal config journal
  pub links : ServedOver end test config 1 journal door.given door.now door.backs door.taken
  pub let_in : status ≡ outcome.Done → HasEntered config journal door.given door.now
  pub silent : own by_of 0 journal ≡ (0, entry_of_door) ∷ []
  pub status_is : status ≡ status_of end reported
  pub written : Writes reported (report journal) output.before output.after
  pub cause : reported ≡ WriteFault → Rose output.faults output.count

-- links were served with the configuration that was read
pub record Serves (status : Status) (content : Option (List ℕ)) (test : List ℤ → Bool) (door : Door) (output : Output) : Type 0 where
  pub config : Settings
  pub is_read : IfSome content (λ bytes. defs bytes ≡ Ok config)
  pub served : ServesWith status config test door output

-- there was no memory to begin with, or links were served
abbrev pub Tries : Status → Settings → (List ℤ → Bool) → Door → Output → Type 0
Tries status config test door output = ((status ≡ outcome.NoMemory) × Untouched door output) ⊎ ServesWith status config test door output

-- what a status says about a command: that there is no configuration or no memory to begin with, or that links were served
abbrev pub Fulfils : Status → Command → (List ℕ → Option (List ℕ)) → (List ℤ → Bool) → Door → Output → Type 0
Fulfils status command files test door output =
    (IsNoConfig status (files command.config) × Untouched door output) ⊎ Serves status (files command.config) test door output

-- the same for words, which may be malformed
abbrev pub Answers : Status → Option Command → (List ℕ → Option (List ℕ)) → (List ℤ → Bool) → Door → Output → Type 0
Answers status None files test door output = ((status ≡ outcome.Usage) ⊎ (status ≡ outcome.NoMemory)) × Untouched door output
Answers status (Some command) files test door output =
    Fulfils status command files test door output ⊎ ((status ≡ outcome.NoMemory) × Untouched door output)

-- no more links were given out than were to be served
abbrev pub AtMost : Option Command → ℕ → ℕ → Type 0
AtMost None given now = now ≡ given
AtMost (Some command) given now = IfSome command.sessions (λ most. now ≤ given + most)

-- the listener has stopped, or has given out as many links as were to be served
abbrev pub IsOver : Option Command → Bool → ℕ → ℕ → Type 0
IsOver None stopped given now = ⊥
IsOver (Some command) stopped given now = (stopped ≡ true) ⊎ IsReached command.sessions given now
