use Rattle.avro_bin.proofs.TypedLemmas.{has_schema}
use Rattle.avro_bin.proofs.laws.spelled_has_schema.Goals as goal

pub returns : goal.returns
returns c = has_schema
