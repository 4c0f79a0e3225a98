use Rattle.std.proofs.Common.{◌≡◌, ◌++◌}
use Rattle.std.specs.Map.{values_of}
use Rattle.std.specs.Vec.Iter.{into_iter_items}
use Rattle.keyed_requests.proofs.values.sent_values.Given as goal

abbrev pub invariant-loop-pair : goal.invariant-loop-pair
invariant-loop-pair g l = l.out.items ++ values_of (into_iter_items l.pair-iterator) ≡ values_of l.fn.items
