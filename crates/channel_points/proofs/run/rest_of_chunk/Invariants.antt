use Rattle.std.proofs.Common.{◌≡◌, [], drop}
use Rattle.channel_points.specs.Blocks.{joined}
use Rattle.channel_points.proofs.run.rest_of_chunk.Given as goal

abbrev pub invariant-loop-part : goal.invariant-loop-part
invariant-loop-part l = drop l.skip (joined (drop l.part-index l.parts) []) ≡ drop l.place (joined l.parts [])
