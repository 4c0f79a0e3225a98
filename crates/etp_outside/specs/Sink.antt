-- What a write takes.
use Rattle.std.specs.Prelude.{ℕ, ◌<◌, ◌≤◌, List, take}
use Rattle.std.specs.Io.KnownBytes.{Keeps, Appends}
use Rattle.std.specs.declared.option.Option.{Option}
use Rattle.etp_outside.specs.declared.sink.WriteOutcome.{WriteOutcome}
use Rattle.etp_outside.specs.declared.sink.WriteOutcome.TheVariants.{Took, Failed}

-- a write takes no more than there is, and something if there is something
abbrev pub IsTaken : WriteOutcome → ℕ → Type 0
IsTaken (Took n) len = (n ≤ len) × (0 < len → 0 < n)
IsTaken Failed len = Unit {0}

-- what a write does to the bytes that are held
abbrev pub Writes : WriteOutcome → List ℕ → Option (List ℕ) → Option (List ℕ) → Type 0
Writes (Took n) piece old new = Appends old new (take n piece)
Writes Failed piece old new = Keeps old new
