-- A journal's file at rest, and what appending leaves.
use Rattle.std.specs.Prelude.{◌≡◌, ◌+◌, ◌<◌, ◌≤◌, ◌^◌, ◌++◌, ℕ, List, length}
use Rattle.std.specs.declared.option.Option.{Option}
use Rattle.journal_disk.specs.Disks.{LeavesOnly}
use Rattle.journal_file.specs.Layout.{head, blocks, IsFile, IsBeforeOrAfter}
use Rattle.journal_file.specs.Gates.{IsKept, Leaves}
use Rattle.journal_file.specs.declared.file.JournalFile.{JournalFile}
use Rattle.journal_file.specs.declared.error.JournalError.{JournalError}
use Rattle.journal_file.specs.declared.error.JournalError.TheVariants as Why

-- the disk tells its bytes, they are the file of this instance with these spellings, and a crash leaves them
pub record AtRest {D : Type 0} (seen : D → Option (List ℕ)) (may_leave : D → List ℕ → Type 0) (id : List ℕ) (ss : List (List ℕ)) (j : JournalFile D) : Type 0 where
  pub file : List ℕ
  pub kept : IsKept seen may_leave j.disk file
  pub form : IsFile id ss file
  pub gate : j.gate ≡ length (head id ++ blocks ss)

-- a file that was at rest is at rest with these spellings too
abbrev pub Appends : {D : Type 0} → (D → Option (List ℕ)) → (D → List ℕ → Type 0) → JournalFile D → List (List ℕ) → JournalFile D → Type 0
Appends seen may_leave old more new = (id : List ℕ) (ss : List (List ℕ)) → AtRest seen may_leave id ss old → AtRest seen may_leave id (ss ++ more) new

-- a file that was at rest reads as it was, or with these spellings too
abbrev pub Stays : {D : Type 0} → (D → Option (List ℕ)) → (D → List ℕ → Type 0) → JournalFile D → List (List ℕ) → JournalFile D → Type 0
Stays seen may_leave old more new = (id : List ℕ) (ss : List (List ℕ)) → AtRest seen may_leave id ss old → Leaves seen new.disk (IsBeforeOrAfter id ss more)

-- and so does all that a crash at some moment in between might have left
abbrev pub AtEachMoment : {D : Type 0} → (D → Option (List ℕ)) → (D → List ℕ → Type 0) → (D → ℕ) → (D → ℕ → List ℕ → Type 0) → JournalFile D → List (List ℕ) → JournalFile D → Type 0
AtEachMoment seen may_leave moment left_since old more new =
    (id : List ℕ) (ss : List (List ℕ)) → AtRest seen may_leave id ss old → LeavesOnly moment left_since old.disk new.disk (IsBeforeOrAfter id ss more)

-- the gate behind these spellings stands where a gate may
abbrev pub Fits : {D : Type 0} → JournalFile D → List (List ℕ) → Type 0
Fits j more = j.gate + length (blocks more) ≤ 2 ^ 62

-- what a refusal says: the file is as before, unless the disk failed, and it takes no more exactly where these spellings don't fit
abbrev pub IsLeft : {D : Type 0} → JournalError → JournalFile D → List (List ℕ) → JournalFile D → Type 0
IsLeft Why.TooLong old more new = (2 ^ 62 < old.gate + length (blocks more)) × (new ≡ old)
IsLeft Why.NoMemory old more new = new ≡ old
IsLeft Why.DiskFault old more new = Fits old more
IsLeft Why.Magic old more new = ⊥
IsLeft Why.Instance old more new = ⊥
IsLeft (Why.Entry at) old more new = ⊥
