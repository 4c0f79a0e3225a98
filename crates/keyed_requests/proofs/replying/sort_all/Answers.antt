use Rattle.keyed_requests.proofs.OrderLemmas.{ordered_front, ordered_sent, ordered_refused}
use Rattle.keyed_requests.proofs.replying.sort_all.Goals as goal

pub from_sorted-requires : goal.from_sorted-requires
from_sorted-requires g c = ordered_front _ _ _ c.loop-key.invariant.granted (ordered_sent (λ given. given) c.args.items c.into_vec-key-items.ensures.sorted)

pub from_sorted-requires-2 : goal.from_sorted-requires-2
from_sorted-requires-2 g c = ordered_front _ _ _ c.loop-key.invariant.refused (ordered_refused c.args.items c.into_vec-key-items.ensures.sorted)
