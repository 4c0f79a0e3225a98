use Rattle.std.proofs.Common.{inr}
use Rattle.avro_bin.specs.Laws.{node_limit}
use Rattle.etp_schema.proofs.TypedLemmas.{typed_ok, typed_err}
use Rattle.etp_schema.proofs.on_wire.read_body.Goals as goal

pub returns-in-Ok-clause-reads : goal.returns-in-Ok-clause-reads
returns-in-Ok-clause-reads g c =
    let read = rw (c.new-from.ensures.left, c.new-from.ensures.rest) at c.in-Ok.ensures in
    rw (c.saturating_sub.ensures, c.rest.ensures) (typed_ok g.T.Typed.form node_limit c.args.bytes.now _ _ _ read)

pub returns-in-Err-At-clause-reads : goal.returns-in-Err-At-clause-reads
returns-in-Err-At-clause-reads g c =
    let fails = rw c.in-Err-At.field-0-is at c.in-Err-At.ensures in
    let read = rw (c.new-from.ensures.left, c.new-from.ensures.rest) at fails in
    inr (rw (c.refusal_at.ensures, c.saturating_sub-in-Err-At.ensures, c.in-Err-At.field-0-is) (typed_err g.T.Typed.form node_limit c.args.bytes.now c.in-Err-At.why c.in-Err-At.left read))
