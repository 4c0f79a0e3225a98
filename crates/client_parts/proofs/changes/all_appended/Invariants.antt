use Rattle.std.proofs.Common.{◌≡◌, ◌++◌, map}
use Rattle.std.specs.Vec.Iter.{into_iter_items}
use Rattle.client_parts.specs.Changes.{appended}
use Rattle.client_parts.proofs.changes.all_appended.Given as goal

abbrev pub invariant-loop-run : goal.invariant-loop-run
invariant-loop-run l = l.changes.items ++ map appended (into_iter_items l.run-iterator) ≡ map appended l.fn.runs.items
