use Rattle.std.proofs.Common.{◌≡◌, ◌++◌, map}
use Rattle.std.specs.Vec.Iter.{into_iter_items}
use Rattle.client_parts.specs.Changes.{point_of}
use Rattle.client_parts.proofs.changes.map_points.Given as goal

abbrev pub invariant-loop-item : goal.invariant-loop-item
invariant-loop-item l = l.points.items ++ map point_of (into_iter_items l.item-iterator) ≡ map point_of l.fn.items
