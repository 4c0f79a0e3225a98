use Rattle.keyed_requests.specs.Keyed.{kept_one}
use Rattle.keyed_requests.proofs.OrderLemmas.{ordered_front, ordered_mapped, ordered_sent}
use Rattle.keyed_requests.proofs.asking.divide_all.Goals as goal

pub from_sorted-requires : goal.from_sorted-requires
from_sorted-requires g c = ordered_front _ _ _ c.loop-key.invariant.kept (ordered_mapped (kept_one (g.R.KeyedRequest.keep c.args.request.now)) c.args.items c.into_vec-key-items.ensures.sorted)

pub from_sorted-requires-2 : goal.from_sorted-requires-2
from_sorted-requires-2 g c = ordered_front _ _ _ c.loop-key.invariant.sent (ordered_sent (g.R.KeyedRequest.send c.args.request.now) c.args.items c.into_vec-key-items.ensures.sorted)
