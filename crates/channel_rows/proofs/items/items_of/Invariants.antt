use Rattle.std.proofs.Common.{◌≡◌, ◌++◌}
use Rattle.std.specs.Vec.Iter.{into_iter_items}
use Rattle.channel_rows.specs.Points.{items_of}
use Rattle.channel_rows.proofs.items.items_of.Given as goal

abbrev pub invariant-loop-point : goal.invariant-loop-point
invariant-loop-point l = l.items.items ++ items_of l.channel (into_iter_items l.point-iterator) ≡ items_of l.channel l.fn.points
