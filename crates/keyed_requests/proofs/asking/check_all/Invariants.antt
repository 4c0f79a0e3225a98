-- What is checked so far, and what is left, make the whole.
use Rattle.std.proofs.Common.{◌≡◌, ◌++◌}
use Rattle.std.specs.Vec.Iter.{into_iter_items}
use Rattle.keyed_requests.specs.Keyed.{checked, checked_state}
use Rattle.keyed_requests.proofs.asking.check_all.Given as goal

abbrev pub invariant-loop-key : goal.invariant-loop-key
invariant-loop-key g l = record {
  checked : l.out.items ++ checked (g.R.KeyedRequest.check l.request) l.state (into_iter_items l.key-iterator) ≡ checked (g.R.KeyedRequest.check l.request) l.fn.state l.fn.items;
  state : checked_state (g.R.KeyedRequest.check l.request) l.state (into_iter_items l.key-iterator) ≡ checked_state (g.R.KeyedRequest.check l.request) l.fn.state l.fn.items;
}
