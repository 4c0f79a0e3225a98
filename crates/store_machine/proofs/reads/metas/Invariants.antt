use Rattle.std.proofs.Common.{◌≡◌, ◌++◌, map}
use Rattle.std.specs.Vec.Iter.{into_iter_items}
use Rattle.store_machine.specs.Reads.{meta_under}
use Rattle.store_machine.proofs.reads.metas.Given as goal

abbrev pub invariant-loop-name : goal.invariant-loop-name
invariant-loop-name l = l.metas.items ++ map (meta_under l.channels) (into_iter_items l.name-iterator) ≡ map (meta_under l.channels) l.fn.items.items
