-- Counts of faults.
use Rattle.std.specs.Prelude.{ℕ, ◌+◌, ◌-◌, ◌^◌, ◌≤◌, min}

-- the count after one more fault, which stops at `u64::MAX`
abbrev pub next_count : ℕ → ℕ
next_count n = min (n + 1) (2 ^ 64 - 1)

-- a count rose, or has stopped
abbrev pub Rose : ℕ → ℕ → Type 0
Rose before now = next_count before ≤ now
