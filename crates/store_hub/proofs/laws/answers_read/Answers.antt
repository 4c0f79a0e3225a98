use Rattle.store_hub.proofs.ReadingLemmas.{reads}
use Rattle.store_hub.proofs.laws.answers_read.Goals as goal

pub returns : goal.returns
returns c = reads
