-- What is divided so far, and what is left, make the whole.
use Rattle.std.proofs.Common.{◌≡◌, ◌++◌}
use Rattle.std.specs.Vec.Iter.{into_iter_items}
use Rattle.keyed_requests.specs.Keyed.{kept, sent}
use Rattle.keyed_requests.proofs.asking.divide_all.Given as goal

abbrev pub invariant-loop-key : goal.invariant-loop-key
invariant-loop-key g l = record {
  kept : l.kept.items ++ kept (g.R.KeyedRequest.keep l.request) (into_iter_items l.key-iterator) ≡ kept (g.R.KeyedRequest.keep l.request) l.fn.items;
  sent : l.sent.items ++ sent (g.R.KeyedRequest.send l.request) (into_iter_items l.key-iterator) ≡ sent (g.R.KeyedRequest.send l.request) l.fn.items;
}
