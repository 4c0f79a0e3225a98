use Rattle.std.proofs.Common.{◌≡◌, ◌≤◌, ◌-◌, ◌++◌, [], length, take}
use Rattle.channel_points.specs.Blocks.{joined}
use Rattle.channel_points.specs.Chunks.{AreChunks}
use Rattle.channel_points.proofs.blocks.add_all.Given as goal

abbrev pub invariant-loop-start : goal.invariant-loop-start
invariant-loop-start l = record {
  chunks : AreChunks l.blocks.items;
  points : joined l.blocks.items [] ≡ joined l.fn.blocks.items [] ++ take l.start l.points;
  within : l.start ≤ length l.points;
}

abbrev pub decreases-loop-start : goal.decreases-loop-start
decreases-loop-start l = length l.points - l.start
