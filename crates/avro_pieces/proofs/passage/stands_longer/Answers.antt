use Rattle.avro_pieces.proofs.PassageLemmas.{stands_longer_is}
use Rattle.avro_pieces.proofs.passage.stands_longer.Goals as goal

pub returns : goal.returns
returns c = stands_longer_is
