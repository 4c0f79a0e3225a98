use Rattle.std.proofs.Common.{◌≡◌}
use Rattle.std.specs.Vec.Iter.{into_iter_items}
use Rattle.client_parts.specs.Joining.{with_all}
use Rattle.client_parts.proofs.joining.put_all.Given as goal

abbrev pub invariant-loop-pair : goal.invariant-loop-pair
invariant-loop-pair g l = with_all l.held.entries (into_iter_items l.pair-iterator) ≡ with_all l.fn.held.entries l.fn.pairs.items
