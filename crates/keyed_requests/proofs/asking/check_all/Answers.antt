use Rattle.keyed_requests.proofs.OrderLemmas.{ordered_front, ordered_checked}
use Rattle.keyed_requests.proofs.asking.check_all.Goals as goal

pub from_sorted-requires : goal.from_sorted-requires
from_sorted-requires g c = ordered_front _ _ _ c.loop-key.invariant.checked (ordered_checked (g.R.KeyedRequest.check c.args.request.now) c.args.state.now c.args.items c.into_vec-key-items.ensures.sorted)
