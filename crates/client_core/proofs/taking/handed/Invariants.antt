use Rattle.std.proofs.Common.{◌≡◌, ◌++◌, map}
use Rattle.std.specs.Vec.Iter.{into_iter_items}
use Rattle.client_core.specs.declared.got.Got.TheVariants as got
use Rattle.client_core.proofs.taking.handed.Given as goal

abbrev pub invariant-loop-change : goal.invariant-loop-change
invariant-loop-change l = l.gots.items ++ map got.Change (into_iter_items l.change-iterator) ≡ map got.Change l.fn.changes
