use Rattle.std.proofs.Common.{◌≡◌, [], length, take}
use Rattle.channel_points.specs.Blocks.{joined}
use Rattle.channel_points.proofs.blocks.count_all.Given as goal

abbrev pub invariant-loop-block : goal.invariant-loop-block
invariant-loop-block l = l.count ≡ length (joined (take l.block-index l.blocks) [])
