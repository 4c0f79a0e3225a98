-- What reading on to the end of a line leaves.
use Rattle.std.specs.Prelude.{◌≡◌, ◌<◌, ℕ, Bool, List, ◌++◌, length, Option, None, Some}
use Rattle.std.specs.Io.KnownBytes.{Consumes, IsAtEnd}
use Rattle.point_lines.specs.Lines.{MayFollow}
use Rattle.point_lines.specs.Marks.{IsPlace}
use Rattle.point_lines.specs.declared.lines.Ended.{Ended}
use Rattle.point_lines.specs.declared.lines.Ended.TheVariants.{Feed, Over, TooLong, Failed, NoMemory}

-- after these bytes, which have no line feed, some were taken from the input, and these are all of them
pub record Gathers (over : Bool) (before after : Option (List ℕ)) (a b : List ℕ) : Type 0 where
  pub more : List ℕ
  pub took : Consumes before after more
  pub may : MayFollow over more
  pub all : a ++ more ≡ b

-- and where the line ends
abbrev pub ReadsOn : Ended → Bool → Option (List ℕ) → Option (List ℕ) → List ℕ → List ℕ → Type 0
ReadsOn (Feed i) over before after a b = Gathers over before after a b × IsPlace 10 b (Some i)
ReadsOn Over over before after a b = Gathers over before after a b × IsPlace 10 b None
ReadsOn TooLong over before after a b = Gathers over before after a b × IsPlace 10 b None × (65536 < length b)
ReadsOn Failed over before after a b = Unit {0}
ReadsOn NoMemory over before after a b = Unit {0}

-- the input has ended if nothing more came
abbrev pub IsOver : Ended → Option (List ℕ) → Type 0
IsOver (Feed i) after = Unit {0}
IsOver Over after = IsAtEnd after
IsOver TooLong after = Unit {0}
IsOver Failed after = Unit {0}
IsOver NoMemory after = Unit {0}
