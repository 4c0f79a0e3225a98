use Rattle.std.proofs.Common.{rules}
use Rattle.std.specs.Prelude.{int_lt, not}
use Rattle.std.proofs.lemmas.List.Sorted.{IsPartitionPoint-from_clause}
use Rattle.channel_points.proofs.OrderedLemmas.{partitioned, split-point}
use Rattle.channel_points.proofs.ReadLemmas.{at_most-before}
use Rattle.channel_points.proofs.search.count_to.Goals as goal

pub returns : goal.returns
returns c =
    let parted = partitioned _ (λ x. not (int_lt c.args.index x.index)) (λ x y h k. at_most-before c.args.index x.index y.index h k) c.args.points.now c.requires in
    split-point _ _ _ c.partition_point.ensures.bound (IsPartitionPoint-from_clause (λ x. not (int_lt c.args.index x.index)) _ _ c.partition_point.ensures.partitioned parted (λ a r f k. search rules))
