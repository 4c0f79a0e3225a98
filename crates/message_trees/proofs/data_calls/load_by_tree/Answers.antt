use Rattle.std.proofs.Common.{◌≡◌, arith}
use Rattle.avro_bin.specs.Schema.{schema}
use Rattle.avro_bin.specs.View.{value_of}
use Rattle.etp_schema.specs.Shapes.{nodes_of, shape_at}
use Rattle.message_trees.proofs.LoadTreeLemmas.{load_read, load_refused}
use Rattle.message_trees.proofs.data_calls.load_by_tree.Goals as goal

pub returns-in-Err-clause-reads : goal.returns-in-Err-clause-reads
returns-in-Err-clause-reads c =
    let is = c.schema_table.ensures.schemas 158 (omega arith) in
    load_refused (schema (nodes_of c.schema_table.result.now) 158) c.args.bytes.now c.in-Err.refusal is c.in-Err.ensures.exact

pub returns-in-Ok-from_tree-clause-reads : goal.returns-in-Ok-from_tree-clause-reads
returns-in-Ok-from_tree-clause-reads c =
    let is = c.schema_table.ensures.schemas 158 (omega arith) in
    let read = c.in-Ok.read in
    load_read (schema (nodes_of c.schema_table.result.now) 158) c.args.bytes.now (value_of read.0) read.1 c.in-Ok-from_tree.load is c.in-Ok.ensures.exact c.in-Ok-from_tree.ensures
