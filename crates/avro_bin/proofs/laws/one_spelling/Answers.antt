use Rattle.avro_bin.proofs.WholeLemmas.{one_spelling_is}
use Rattle.avro_bin.proofs.laws.one_spelling.Goals as goal

pub returns : goal.returns
returns c = one_spelling_is
