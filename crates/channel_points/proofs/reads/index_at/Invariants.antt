use Rattle.std.proofs.Common.{◌≡◌, drop}
use Rattle.std.specs.Prelude.{slice_get}
use Rattle.channel_points.specs.Blocks.{joined}
use Rattle.channel_points.proofs.reads.index_at.Given as goal

abbrev pub invariant-loop-block : goal.invariant-loop-block
invariant-loop-block l = slice_get (joined (drop l.block-index l.sealed) l.tail) l.skip ≡ slice_get (joined l.sealed l.tail) l.place
