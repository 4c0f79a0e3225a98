-- What a read gives.
use Rattle.std.specs.Prelude.{ℕ, ◌<◌, ◌≤◌, List, take}
use Rattle.std.specs.Io.KnownBytes.{Keeps, Consumes, IsAtEnd}
use Rattle.std.specs.declared.option.Option.{Option}
use Rattle.etp_outside.specs.declared.source.ReadOutcome.{ReadOutcome}
use Rattle.etp_outside.specs.declared.source.ReadOutcome.TheVariants.{Got, End, Failed}

-- a read gives at least one byte, and no more than there is room for
abbrev pub IsCount : ReadOutcome → ℕ → Type 0
IsCount (Got n) room = (0 < n) × (n ≤ room)
IsCount End room = Unit {0}
IsCount Failed room = Unit {0}

-- what a read does to the bytes that are left, with the buffer as it is afterwards
abbrev pub Reads : ReadOutcome → List ℕ → Option (List ℕ) → Option (List ℕ) → Type 0
Reads (Got n) buf old new = Consumes old new (take n buf)
Reads End buf old new = Keeps old new × IsAtEnd new
Reads Failed buf old new = Keeps old new
