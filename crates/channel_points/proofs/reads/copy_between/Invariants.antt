use Rattle.std.proofs.Common.{◌≡◌, ◌++◌, take, drop}
use Rattle.channel_points.specs.Blocks.{joined}
use Rattle.channel_points.proofs.reads.copy_between.Given as goal

abbrev pub invariant-loop-block : goal.invariant-loop-block
invariant-loop-block l = l.copies.items ++ take l.left (drop l.skip (joined (drop l.block-index l.sealed) l.tail)) ≡ l.fn.copies.items ++ take l.count (drop l.start (joined l.sealed l.tail))
