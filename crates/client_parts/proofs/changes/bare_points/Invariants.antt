use Rattle.std.proofs.Common.{◌≡◌, ◌++◌, drop, map}
use Rattle.client_parts.specs.Changes.{bare_point}
use Rattle.client_parts.proofs.changes.bare_points.Given as goal

abbrev pub invariant-loop-item : goal.invariant-loop-item
invariant-loop-item l = l.points.items ++ map bare_point (drop l.item-index l.items) ≡ map bare_point l.items
