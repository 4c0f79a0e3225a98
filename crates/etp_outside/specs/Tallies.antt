-- Counts that only proofs can read.
use Rattle.std.specs.Prelude.{ℕ, suc}
use Rattle.etp_outside.specs.declared.tally.Before.{Before}
use Rattle.etp_outside.specs.declared.tally.Before.TheVariants.{Nothing, Call}

-- one more than before the last call
abbrev pub count_of : Before → ℕ
count_of Nothing = 0
count_of (Call before) = suc before.value
