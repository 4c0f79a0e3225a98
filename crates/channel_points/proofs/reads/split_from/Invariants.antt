use Rattle.std.proofs.Common.{◌≡◌, true, [], length, take}
use Rattle.std.specs.List.{AllByRecursion}
use Rattle.channel_points.specs.Blocks.{joined}
use Rattle.channel_points.specs.Chunks.{lies_before}
use Rattle.channel_points.proofs.reads.split_from.Given as goal

abbrev pub invariant-loop-block : goal.invariant-loop-block
invariant-loop-block l = record {
  pass : AllByRecursion (λ x. lies_before l.ends l.index x.index ≡ true) (joined (take l.block-index l.sealed) []);
  counted : l.count ≡ length (joined (take l.block-index l.sealed) []);
}
