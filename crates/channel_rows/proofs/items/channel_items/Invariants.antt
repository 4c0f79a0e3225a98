use Rattle.std.proofs.Common.{◌≡◌, ◌++◌}
use Rattle.std.specs.Vec.Iter.{into_iter_items}
use Rattle.channel_rows.specs.Points.{channel_items}
use Rattle.channel_rows.proofs.items.channel_items.Given as goal

abbrev pub invariant-loop-one : goal.invariant-loop-one
invariant-loop-one l = l.items.items ++ channel_items (into_iter_items l.one-iterator) ≡ channel_items l.fn.points
