use Rattle.avro_bin.proofs.WholeLemmas.{reads_exactly, refuses_exactly}
use Rattle.avro_bin.proofs.laws.reading_is_exact.Goals as goal

pub returns-clause-read : goal.returns-clause-read
returns-clause-read c = reads_exactly

pub returns-clause-refused : goal.returns-clause-refused
returns-clause-refused c = refuses_exactly
