use Rattle.std.proofs.Common.{◌≤◌, ◌-◌, length}
use Rattle.std.specs.Map.{keys_of}
use Rattle.etp_values.proofs.RisingLemmas.{RisesBelow}
use Rattle.etp_values.proofs.named.rises.Given as goal

abbrev pub invariant-loop-i : goal.invariant-loop-i
invariant-loop-i g l = record {
  low : 1 ≤ l.i;
  rising : RisesBelow (keys_of l.items) l.i;
}

abbrev pub decreases-loop-i : goal.decreases-loop-i
decreases-loop-i g l = length l.items - l.i
