use Rattle.std.proofs.Common.{◌≡◌, fold}
use Rattle.std.specs.Vec.Iter.{into_iter_items}
use Rattle.client_parts.specs.Changes.{runs, with_point}
use Rattle.client_parts.proofs.changes.runs.Given as goal

abbrev pub invariant-loop-point : goal.invariant-loop-point
invariant-loop-point l = fold with_point l.all.items (into_iter_items l.point-iterator) ≡ runs l.fn.points
