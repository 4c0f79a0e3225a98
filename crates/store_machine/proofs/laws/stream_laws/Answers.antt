use Rattle.store_machine.proofs.StreamLemmas.{stream-copied}
use Rattle.store_machine.proofs.laws.stream_laws.Goals as goal

pub returns : goal.returns
returns c = stream-copied c.copy_is_points.ensures c.accepted_calls.ensures.within
