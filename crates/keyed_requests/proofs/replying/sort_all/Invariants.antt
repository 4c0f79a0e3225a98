-- What is sorted so far, and what is left, make the whole.
use Rattle.std.proofs.Common.{◌≡◌, ◌++◌}
use Rattle.std.specs.Vec.Iter.{into_iter_items}
use Rattle.keyed_requests.specs.Keyed.{granted, refused_keys}
use Rattle.keyed_requests.proofs.replying.sort_all.Given as goal

abbrev pub invariant-loop-key : goal.invariant-loop-key
invariant-loop-key g l = record {
  granted : l.granted.items ++ granted (into_iter_items l.key-iterator) ≡ granted l.fn.items;
  refused : l.refused.items ++ refused_keys (into_iter_items l.key-iterator) ≡ refused_keys l.fn.items;
}
