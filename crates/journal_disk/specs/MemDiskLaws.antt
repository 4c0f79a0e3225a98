-- The moments of a disk in memory.
use Rattle.std.proofs.Common.{◌≤◌, ℕ, suc, List, [], ◌∷◌, length, inl, inr, arith}
use Rattle.journal_disk.specs.Platter.{Platter}
use Rattle.journal_disk.specs.MemDisks.{Image, LeftSince}
use Rattle.journal_disk.specs.declared.mem_disk.DiskCall.{DiskCall}

counts : (first : List ℕ) (calls : List DiskCall) (t : ℕ) (c : List ℕ) → Image first calls c → LeftSince first calls t c
counts first [] t c now = now
counts first (k ∷ before) t c now = inl now

not_past : (n : ℕ) {A : Type 0} → suc n ≤ n → A
not_past n le = absurd (omega (arith, le))

last : (first : List ℕ) (calls : List DiskCall) (c : List ℕ) → LeftSince first calls (length calls) c → Image first calls c
last first [] c left = left
last first (k ∷ before) c (inl now) = now
last first (k ∷ before) c (inr earlier) = not_past (length before) earlier.0

-- this moment is one of those since an earlier one
pub counts_first : (d : Platter) (t : ℕ) (c : List ℕ) → t ≤ length d.calls → Image d.first d.calls c → LeftSince d.first d.calls t c
counts_first d t c le now = counts d.first d.calls t c now

-- since this moment there is no other
pub only_last : (d : Platter) (c : List ℕ) → LeftSince d.first d.calls (length d.calls) c → Image d.first d.calls c
only_last d c left = last d.first d.calls c left
