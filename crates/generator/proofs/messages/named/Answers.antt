use Rattle.generator.proofs.messages.named.Goals as goal
use Rattle.etp_values.proofs.RisingLemmas.{rises_alone}

pub from_sorted-requires : goal.from_sorted-requires
from_sorted-requires g c = rises_alone _ _ _ c.in_ok-push.ensures.items c.new-items.ensures.items
