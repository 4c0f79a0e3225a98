-- What became of the links that a listener gave out, over the journal that the store had in the end.
use Rattle.std.specs.Prelude.{◌≡◌, ◌≤◌, ◌⊎◌, ◌+◌, ℕ, ℤ, Bool, false, List, [], ◌∷◌, ◌++◌, drop, length, map, Option, IfSome, if◌then◌else◌}
use Rattle.std.specs.List.{AllByRecursion}
use Rattle.server_config.specs.declared.config.Config.{Config}
use Rattle.store_machine.specs.declared.journal.Act.TheVariants.{Enter}
use Rattle.store_machine.specs.declared.journal.Entry.{Entry}
use Rattle.store_machine.specs.Answers.{has_room_for}
use Rattle.etp_outside.specs.Doors.{Back}
use Rattle.etp_outside.specs.Told.{Told}
use Rattle.turn_book.specs.Lists.{occurrences, own}
use Rattle.turn_book.specs.Rules.{Knows}
use Rattle.store_hub.specs.Words.{Known, by_of, enters_of}
use Rattle.etp_serve.specs.Accepted.{Backs, Came, HadMemoryBut, IsCame, ServesAll, mets}
use Rattle.etp_serve.specs.declared.served.Served.{Served}
use Rattle.etp_serve.specs.declared.served.Served.TheVariants.{Stopped}

-- the numbers of the sessions among these
abbrev pub numbers_of : List Came → List ℕ
numbers_of cs = map (λ m. m.number) (mets cs)

-- There is an answer for each link that was given out: the sessions among them were served over this history, none with a number below that
-- one and no two with the same, and each link came back
pub record ServedOver (end : Served) (test : List ℤ → Bool) (config : Config) (low : ℕ) (h : List Entry) (given0 given : ℕ) (b0 b : Option (List Back)) : Type 0 where
  pub came : List Came
  pub each : AllByRecursion (IsCame test config low h) came
  pub apart : (n : ℕ) → occurrences n (numbers_of came) ≤ 1
  pub count : given ≡ given0 + length came
  pub links : Told b0 b (λ x y. (new : List Back) × (y ≡ x ++ new) × Backs came new)
  pub memory : HadMemoryBut end came

-- under the number that a pass had, this journal has no entry but those that the pass had seen
abbrev pub HasNoMoreOf : Known → List Entry → Type 0
HasNoMoreOf v0 h = IfSome v0.number (λ n. own by_of n h ≡ own by_of n v0.seen)

-- what became of links holds over each journal that agrees with what the accepting pass knows, which had met nobody before; and that has no
-- further entry of the pass itself
abbrev pub ServedInTheEnd : Type 0
ServedInTheEnd = (end : Served) (test : List ℤ → Bool) (config : Config) (v0 v : Known) (given0 given : ℕ) (b0 b : Option (List Back)) (h : List Entry)
    → v0.met ≡ [] → Knows by_of enters_of h v → ServesAll end test config v0 v given0 given b0 b
    → ServedOver end test config (length v0.seen) h given0 given b0 b × HasNoMoreOf v0 h

-- how many of these entries let a session in
abbrev pub entered : List Entry → ℕ
entered [] = 0
entered (e ∷ es) = (if enters_of e then 1 else 0) + entered es

-- if the serving just stopped, at least as many sessions were let in from a place on as links were given out, or the journal is full
abbrev pub EachEntered : Type 0
EachEntered = (test : List ℤ → Bool) (config : Config) (low : ℕ) (h : List Entry) (given0 given : ℕ) (b0 b : Option (List Back))
    → ServedOver Stopped test config low h given0 given b0 b → (given ≤ given0 + entered (drop low h)) ⊎ (has_room_for config h Enter ≡ false)
