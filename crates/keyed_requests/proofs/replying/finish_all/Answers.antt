use Rattle.keyed_requests.proofs.OrderLemmas.{ordered_front, ordered_finished}
use Rattle.keyed_requests.proofs.replying.finish_all.Goals as goal

pub from_sorted-requires : goal.from_sorted-requires
from_sorted-requires g c = ordered_front _ _ _ c.loop-key.invariant.finished (ordered_finished (g.A.KeyedReply.finish c.args.reply.now) g.A.KeyedReply.width c.args.state.now c.args.items c.args.findings.now c.into_vec-key-items.ensures.sorted)
