use Rattle.avro_bin.proofs.WrittenLemmas.{plain_spells, reads_back_is}
use Rattle.avro_bin.proofs.laws.reads_back.Goals as goal

pub returns-clause-spelled : goal.returns-clause-spelled
returns-clause-spelled c = plain_spells

pub returns-clause-read : goal.returns-clause-read
returns-clause-read c = reads_back_is
