use Rattle.std.proofs.Common.{rules}
use Rattle.std.specs.Prelude.{int_lt}
use Rattle.std.proofs.lemmas.List.Sorted.{IsPartitionPoint-from_clause}
use Rattle.etp_values.proofs.IntLemmas.{int_lt_trans}
use Rattle.channel_points.proofs.OrderedLemmas.{partitioned, split-point}
use Rattle.channel_points.proofs.search.count_below.Goals as goal

pub returns : goal.returns
returns c =
    let parted = partitioned _ (λ x. int_lt x.index c.args.index) (λ x y h k. int_lt_trans x.index y.index c.args.index h k) c.args.points.now c.requires in
    split-point _ _ _ c.partition_point.ensures.bound (IsPartitionPoint-from_clause (λ x. int_lt x.index c.args.index) _ _ c.partition_point.ensures.partitioned parted (λ a r f k. search rules))
