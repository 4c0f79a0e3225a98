use Rattle.std.proofs.Common.{[]}
use Rattle.avro_bin.specs.Schema.{children}
use Rattle.etp_schema.specs.Shapes.{nodes_of}
use Rattle.capture_text.specs.Names.{table_children, children_at}
use Rattle.capture_text.proofs.NameLemmas.{seen_at, unseen_at}
use Rattle.capture_text.proofs.names.node_at.Goals as goal

pub returns-in-Some : goal.returns-in-Some
unfolding children_at
returns-in-Some c = seen_at children (nodes_of c.schema_places.result.now) table_children c.args.place c.in-Some.node.now [] c.schema_places.ensures c.in-Some.ensures.lookup.3.0 c.in-Some.ensures.lookup.1

pub returns-in-None : goal.returns-in-None
unfolding children_at
returns-in-None c = unseen_at children (nodes_of c.schema_places.result.now) table_children c.args.place [] c.schema_places.ensures c.in-None.ensures.lookup.3
