use Rattle.std.proofs.Common.{◌≡◌, ◌++◌}
use Rattle.std.specs.List.{flat_map}
use Rattle.std.specs.Vec.Iter.{into_iter_items}
use Rattle.keyed_requests.proofs.values.joined_values.Given as goal

abbrev pub invariant-loop-pair : goal.invariant-loop-pair
invariant-loop-pair g l = l.out.items ++ flat_map (λ x. x.1) (into_iter_items l.pair-iterator) ≡ flat_map (λ x. x.1) l.fn.items
