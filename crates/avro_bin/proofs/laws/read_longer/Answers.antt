use Rattle.avro_bin.proofs.LongerLemmas.{reads_longer, refuses_longer}
use Rattle.avro_bin.proofs.laws.read_longer.Goals as goal

pub returns-clause-read : goal.returns-clause-read
returns-clause-read c = reads_longer

pub returns-clause-refused : goal.returns-clause-refused
returns-clause-refused c = refuses_longer
