-- What filling a buffer, writing a piece and reading an input do to the bytes outside.
use Rattle.std.specs.Prelude.{ℕ, ◌<◌, ◌≤◌, List, length, take}
use Rattle.std.specs.Io.KnownBytes.{Appends, Consumes, IsAtEnd}
use Rattle.std.specs.declared.option.Option.{Option}
use Rattle.etp_outside.specs.declared.whole.Filled.{Filled}
use Rattle.etp_outside.specs.declared.whole.Filled.TheVariants.{Full, Short, Failed as FillFailed}
use Rattle.etp_outside.specs.declared.whole.Written.{Written}
use Rattle.etp_outside.specs.declared.whole.Written.TheVariants.{Done, Failed as WriteFailed}
use Rattle.etp_outside.specs.declared.whole.Unread.{Unread}
use Rattle.etp_outside.specs.declared.whole.Unread.TheVariants.{TooLong, Failed as ReadFailed, NoMemory}

-- the input loses fewer than this number of bytes from its front
abbrev pub ConsumesBelow : ℕ → Option (List ℕ) → Option (List ℕ) → Type 0
ConsumesBelow limit old new = (bytes : List ℕ) × (length bytes < limit) × Consumes old new bytes

-- what filling a buffer does to the bytes that are left, with the buffer as it is afterwards
abbrev pub Fills : Filled → List ℕ → Option (List ℕ) → Option (List ℕ) → Type 0
Fills Full buf old new = Consumes old new buf
Fills (Short n) buf old new = (n < length buf) × Consumes old new (take n buf) × IsAtEnd new
Fills FillFailed buf old new = ConsumesBelow (length buf) old new

-- a proper prefix of the piece is appended to the output
abbrev pub AppendsFront : Option (List ℕ) → Option (List ℕ) → List ℕ → Type 0
AppendsFront old new piece = (n : ℕ) × (n < length piece) × Appends old new (take n piece)

-- what writing a piece does to the bytes that are held
abbrev pub WritesAll : Written → List ℕ → Option (List ℕ) → Option (List ℕ) → Type 0
WritesAll Done piece old new = Appends old new piece
WritesAll WriteFailed piece old new = AppendsFront old new piece

-- these are all the bytes that were left, at most this many
abbrev pub ReadsAll : List ℕ → ℕ → Option (List ℕ) → Option (List ℕ) → Type 0
ReadsAll bytes limit old new = (length bytes ≤ limit) × Consumes old new bytes × IsAtEnd new

-- what reading an input does if it ends with an error
abbrev pub ReadsPart : Unread → ℕ → Option (List ℕ) → Option (List ℕ) → Type 0
ReadsPart TooLong limit old new = (bytes : List ℕ) × (limit < length bytes) × Consumes old new bytes
ReadsPart ReadFailed limit old new = (bytes : List ℕ) × (length bytes ≤ limit) × Consumes old new bytes
ReadsPart NoMemory limit old new = (bytes : List ℕ) × Consumes old new bytes
