use Rattle.std.proofs.Common.{◌≡◌, ◌++◌, map}
use Rattle.std.specs.Vec.Iter.{into_iter_items}
use Rattle.client_core.specs.Messages.{item_at}
use Rattle.client_core.proofs.messages.items_at.Given as goal

abbrev pub invariant-loop-point : goal.invariant-loop-point
invariant-loop-point l = l.items.items ++ map (item_at l.channel) (into_iter_items l.point-iterator) ≡ map (item_at l.channel) l.fn.points
