use Rattle.std.proofs.Common.{◌≡◌, ◌++◌, [], take, drop}
use Rattle.channel_points.specs.Blocks.{joined}
use Rattle.channel_points.specs.Chunks.{AreChunks}
use Rattle.channel_points.proofs.blocks.add_between.Given as goal

abbrev pub invariant-loop-block : goal.invariant-loop-block
invariant-loop-block l = record {
  chunks : AreChunks l.blocks.items;
  points : joined l.blocks.items [] ++ take l.left (drop l.skip (joined (drop l.block-index l.sealed) l.tail)) ≡ joined l.fn.blocks.items [] ++ take l.count (drop l.start (joined l.sealed l.tail));
}
