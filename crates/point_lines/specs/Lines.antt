-- The lines of an input, and how far it was read.
use Rattle.std.specs.Prelude.{◌≡◌, ◌<◌, ◌≤◌, ◌==◌, ℕ, Bool, true, false, List, [], ◌∷◌, ◌++◌, length, if◌then◌else◌, nat_lt, Option}
use Rattle.std.specs.Io.KnownBytes.{Consumes, IsAtEnd}
use Rattle.point_lines.specs.declared.lines.Advance.{Advance}
use Rattle.point_lines.specs.declared.lines.Advance.TheVariants as advance

-- a byte put before the first of lines
abbrev pub in_front : ℕ → List (List ℕ) → List (List ℕ)
in_front b [] = (b ∷ []) ∷ []
in_front b (line ∷ lines) = (b ∷ line) ∷ lines

-- the lines: each ends with a line feed, the last one with it or with the input
abbrev pub lines_in : List ℕ → List (List ℕ)
lines_in [] = []
lines_in (b ∷ bs) = if b == 10 then [] ∷ lines_in bs else in_front b (lines_in bs)

-- a reader of lines: the current line, the bytes that it has read and not given yet, and whether the input has ended
pub record Reading : Type 0 where
  pub line : List ℕ
  pub ahead : List ℕ
  pub over : Bool

-- what can follow the bytes that were taken
abbrev pub MayFollow : Bool → List ℕ → Type 0
MayFollow false rest = Unit {0}
MayFollow true rest = rest ≡ []

-- of an input, from `before` to `now`, these lines were given and the reader is here
pub record HasGiven (before now : Option (List ℕ)) (r : Reading) (given : List (List ℕ)) : Type 0 where
  pub taken : List ℕ
  pub consumed : Consumes before now taken
  pub lines : (rest : List ℕ) → MayFollow r.over rest → lines_in (taken ++ rest) ≡ given ++ lines_in (r.ahead ++ rest)
  pub end : r.over ≡ true → IsAtEnd now

-- these lines were given, and the next one is too long
pub record MeetsLong (before now : Option (List ℕ)) (given : List (List ℕ)) : Type 0 where
  pub taken : List ℕ
  pub long : List ℕ
  pub later : List (List ℕ)
  pub consumed : Consumes before now taken
  pub lines : lines_in taken ≡ given ++ long ∷ later
  pub is_long : 65536 < length long

-- these are all lines
pub record HasGivenAll (before now : Option (List ℕ)) (given : List (List ℕ)) : Type 0 where
  pub taken : List ℕ
  pub consumed : Consumes before now taken
  pub lines : lines_in taken ≡ given
  pub end : IsAtEnd now

-- what an answer says, if these lines were given before
abbrev pub Goes : Advance → Option (List ℕ) → Option (List ℕ) → Reading → List (List ℕ) → Type 0
Goes advance.Line before now r given = HasGiven before now r (given ++ r.line ∷ []) × (length r.line ≤ 65536)
Goes advance.TooLong before now r given = MeetsLong before now given
Goes advance.NoMore before now r given = HasGivenAll before now given
Goes advance.Failed before now r given = Unit {0}
Goes advance.NoMemory before now r given = Unit {0}

-- the answer for a line of this length
abbrev pub of_length : ℕ → Advance
of_length n = if nat_lt 65536 n then advance.TooLong else advance.Line
