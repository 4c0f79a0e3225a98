use Rattle.std.proofs.Common.{inr}
use Rattle.avro_bin.specs.Schema.{schema}
use Rattle.avro_bin.specs.Laws.{node_limit}
use Rattle.avro_bin.proofs.SpannedLemmas.{spans_ok, spans_err}
use Rattle.avro_bin.proofs.spanning.span.Goals as goal

pub returns-in-Ok : goal.returns-in-Ok
returns-in-Ok c = rw c.saturating_sub.ensures (spans_ok (schema c.args.table.now.nodes.now c.args.id) node_limit c.args.bytes.now _ c.in-Ok.rest.now c.in-Ok.ensures)

pub returns-in-Err-At : goal.returns-in-Err-At
returns-in-Err-At c = inr (rw (c.refusal_at.ensures, c.saturating_sub-in-Err-At.ensures) (spans_err (schema c.args.table.now.nodes.now c.args.id) node_limit c.args.bytes.now c.in-Err-At.why c.in-Err-At.left (rw c.in-Err-At.field-0-is at c.in-Err-At.ensures)))
