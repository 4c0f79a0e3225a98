-- What the calls of a disk do to its file, and what a crash may leave of it.
use Rattle.std.specs.Prelude.{◌≡◌, ◌⊎◌, ◌+◌, ◌≤◌, ℕ, min, max, List, length, take, drop, ⊤, None, Some}
use Rattle.std.specs.declared.option.Option.{Option}
use Rattle.etp_outside.specs.declared.source.ReadOutcome.{ReadOutcome}
use Rattle.etp_outside.specs.declared.source.ReadOutcome.TheVariants as Read
use Rattle.journal_disk.specs.declared.disk.Length.{Length}
use Rattle.journal_disk.specs.declared.disk.Length.TheVariants as Len
use Rattle.journal_disk.specs.declared.disk.Wrote.{Wrote}
use Rattle.journal_disk.specs.declared.disk.Wrote.TheVariants as Write

-- after a write of n bytes that a crash cuts short: any bytes in its range and past the old end, and the end anywhere there; the same elsewhere
pub record Torn (at n : ℕ) (old new : List ℕ) : Type 0 where
  pub before : take (min at (length old)) new ≡ take at old
  pub after : drop (at + n) new ≡ drop (at + n) old
  pub no_shorter : length old ≤ length new
  pub no_longer : length new ≤ max (length old) (at + n)

-- after a write that is done: the piece at its place, the same elsewhere up to the old end; a hole before the piece may hold any bytes
pub record Holds (at : ℕ) (piece old new : List ℕ) : Type 0 where
  pub before : take (min at (length old)) new ≡ take at old
  pub there : take (length piece) (drop at new) ≡ piece
  pub after : drop (at + length piece) new ≡ drop (at + length piece) old

-- what a write does to what a read gives
abbrev pub Writes : Wrote → ℕ → List ℕ → List ℕ → List ℕ → Type 0
Writes Write.Done at piece old new = Holds at piece old new
Writes Write.Failed at piece old new = Torn at (length piece) old new

-- the length that was told is the file's
abbrev pub IsLength : Length → Option (List ℕ) → Type 0
IsLength (Len.Known n) None = ⊤
IsLength (Len.Known n) (Some f) = n ≡ length f
IsLength Len.Failed seen = ⊤

-- what a read from a place on gives of a file, with the buffer as it is afterwards
abbrev pub ReadsAt : ReadOutcome → ℕ → List ℕ → Option (List ℕ) → Type 0
ReadsAt (Read.Got n) at buf None = ⊤
ReadsAt (Read.Got n) at buf (Some f) = take n buf ≡ take n (drop at f)
ReadsAt Read.End at buf None = ⊤
ReadsAt Read.End at buf (Some f) = length f ≤ at
ReadsAt Read.Failed at buf seen = ⊤

-- each new outcome of a crash is an old outcome after a step
abbrev pub Follows : (List ℕ → List ℕ → Type 0) → (List ℕ → Type 0) → (List ℕ → Type 0) → Type 0
Follows step old new = (c : List ℕ) → new c → (d : List ℕ) × old d × step d c

-- a crash leaves this and nothing else
abbrev pub Only : List ℕ → (List ℕ → Type 0) → Type 0
Only file outcomes = (c : List ℕ) → outcomes c → c ≡ file

-- time goes on: a crash since t might have left what it might have left before, or what it may leave now
pub record Elapses (before now : ℕ) (past since : ℕ → List ℕ → Type 0) (may_leave : List ℕ → Type 0) : Type 0 where
  pub later : before ≤ now
  pub nothing_else : (t : ℕ) (c : List ℕ) → t ≤ before → since t c → past t c ⊎ may_leave c
  pub keeps : (t : ℕ) (c : List ℕ) → t ≤ before → past t c → since t c

-- a crash at any moment since old leaves a file that has P
pub record LeavesOnly {D : Type 0} (moment : D → ℕ) (left_since : D → ℕ → List ℕ → Type 0) (old new : D) (P : List ℕ → Type 0) : Type 0 where
  pub later : moment old ≤ moment new
  pub each : (c : List ℕ) → left_since new (moment old) c → P c
  -- for a run that began earlier
  pub before : (t : ℕ) (c : List ℕ) → t ≤ moment old → left_since new t c → left_since old t c ⊎ P c
