-- What a disk in memory gives, and what a crash may leave of it.
use Rattle.std.specs.Prelude.{◌≡◌, ◌⊎◌, ◌+◌, ◌-◌, ◌≤◌, ◌++◌, ℕ, List, [], ◌∷◌, length, take, drop, replicate}
use Rattle.journal_disk.specs.Disks.{Torn}
use Rattle.journal_disk.specs.Platter.{Platter}
use Rattle.journal_disk.specs.declared.mem_disk.DiskCall.{DiskCall}
use Rattle.journal_disk.specs.declared.mem_disk.DiskCall.TheVariants as Call

-- a piece at its place, after zeros where the place lies past the end
abbrev pub put_in : List ℕ → ℕ → List ℕ → List ℕ
put_in old at piece = take at old ++ (replicate (at - length old) 0 ++ (piece ++ drop (at + length piece) old))

-- what a read gives after these calls, the last one first
abbrev pub content : List ℕ → List DiskCall → List ℕ
content first [] = first
content first (Call.Put at piece kept ∷ before) = put_in (content first before) at (take kept piece)
content first (Call.Synced ∷ before) = content first before
content first (Call.Other ∷ before) = content first before

-- what a crash after these calls may leave
abbrev pub Image : List ℕ → List DiskCall → List ℕ → Type 0
Image first [] c = c ≡ first
Image first (Call.Put at piece kept ∷ before) c = (d : List ℕ) × Image first before d × Torn at (length piece) d c
Image first (Call.Synced ∷ before) c = c ≡ content first before
Image first (Call.Other ∷ before) c = Image first before c

-- what a crash after the first t of these calls, or after more of them, may leave
abbrev pub LeftSince : List ℕ → List DiskCall → ℕ → List ℕ → Type 0
LeftSince first [] t c = c ≡ first
LeftSince first (k ∷ before) t c = Image first (k ∷ before) c ⊎ ((t ≤ length before) × LeftSince first before t c)

-- a disk before its first call
abbrev pub first_platter : List ℕ → List ℕ → ℕ → Platter
first_platter bytes fails kept = record { first = bytes; held = bytes; calls = []; fails = fails; kept = kept; faults = 0 }
