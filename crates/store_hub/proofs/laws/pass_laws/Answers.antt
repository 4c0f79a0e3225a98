use Rattle.store_hub.proofs.ReadingLemmas.{fresh_entered}
use Rattle.store_hub.proofs.laws.pass_laws.Goals as goal

pub returns : goal.returns
returns c = record { fresh = fresh_entered }
