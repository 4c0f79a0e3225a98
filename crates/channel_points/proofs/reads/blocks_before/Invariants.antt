use Rattle.std.proofs.Common.{◌≡◌, ◌≤◌, ◌-◌, true, [], length, take}
use Rattle.std.specs.List.{AllByRecursion}
use Rattle.channel_points.specs.Blocks.{joined}
use Rattle.channel_points.specs.Chunks.{lies_before}
use Rattle.channel_points.proofs.reads.blocks_before.Given as goal

abbrev pub invariant-loop-low : goal.invariant-loop-low
invariant-loop-low l = record {
  before : AllByRecursion (λ x. lies_before l.ends l.index x.index ≡ true) (joined (take l.low l.sealed) []);
  ordered : l.low ≤ l.high;
  within : l.high ≤ length l.sealed;
}

abbrev pub decreases-loop-low : goal.decreases-loop-low
decreases-loop-low l = l.high - l.low
