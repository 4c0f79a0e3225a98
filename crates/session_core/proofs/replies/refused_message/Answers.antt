use Rattle.keyed_requests.proofs.OrderLemmas.{ordered_front, ordered_mapped}
use Rattle.session_core.specs.Replies.{error_info}
use Rattle.session_core.proofs.replies.refused_message.Goals as goal

pub from_sorted-requires : goal.from_sorted-requires
from_sorted-requires c = ordered_front _ _ _ c.loop-key.invariant (ordered_mapped error_info c.args.keys c.into_vec-key-items.ensures.sorted)
