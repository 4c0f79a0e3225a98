use Rattle.subscribe_core.proofs.StreamLemmas.{stays-silent, stream-goes-on}
use Rattle.subscribe_core.proofs.laws.streams.Goals as goal

pub returns : goal.returns
returns c = record { on = stream-goes-on; silent = stays-silent }
