use Rattle.avro_bin.proofs.TableTestLemmas.{table_is}
use Rattle.avro_bin.specs.Schema.{schema}
use Rattle.etp_schema.specs.Shapes.{nodes_of}
use Rattle.etp_schema.proofs.BodyLemmas.{bodies_are, schemas_are}
use Rattle.etp_schema.proofs.table.schema_table.Goals as goal

pub returns-clause-order : goal.returns-clause-order
returns-clause-order c = table_is (nodes_of c.literal.result.now) c.literal.ensures.order

pub returns-clause-schemas : goal.returns-clause-schemas
returns-clause-schemas c = schemas_are (schema (nodes_of c.literal.result.now)) c.literal.ensures.schemas

pub returns-clause-bodies : goal.returns-clause-bodies
returns-clause-bodies c = bodies_are
