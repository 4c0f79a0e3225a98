use Rattle.std.proofs.Common.{◌≡◌, ◌++◌}
use Rattle.std.specs.Vec.Iter.{into_iter_items}
use Rattle.channel_points.specs.Handles.{points_alone}
use Rattle.channel_points.proofs.items.strip.Given as goal

abbrev pub invariant-loop-item : goal.invariant-loop-item
invariant-loop-item l = l.points.items ++ points_alone (into_iter_items l.item-iterator) ≡ points_alone l.fn.items
