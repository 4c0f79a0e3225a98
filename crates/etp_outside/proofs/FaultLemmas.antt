-- A count of faults that rose, over several steps; for the crates above too.
use Rattle.std.proofs.Common.{ℕ, ◌≤◌, arith}
use Rattle.etp_outside.specs.Faults.{Rose}

-- a count that rose in a later step rose over all of them
pub rose_later : (before mid now : ℕ) → before ≤ mid → Rose mid now → Rose before now
rose_later before mid now kept rose = omega (arith, kept, rose)
