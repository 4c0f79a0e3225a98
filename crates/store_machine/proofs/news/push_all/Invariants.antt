use Rattle.std.proofs.Common.{◌≡◌, ◌++◌}
use Rattle.std.specs.Vec.Iter.{into_iter_items}
use Rattle.store_machine.proofs.news.push_all.Given as goal

abbrev pub invariant-loop-change : goal.invariant-loop-change
invariant-loop-change l = l.changes.items ++ into_iter_items l.change-iterator ≡ l.fn.changes.items ++ l.fn.due.items
