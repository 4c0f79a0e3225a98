use Rattle.std.proofs.Common.{◌-◌, length, drop, sym, ap, ◌∙◌, arith, inl, inr, refl}
use Rattle.std.proofs.lemmas.List.{length-drop}
use Rattle.avro_bin.specs.Value.{nodes}
use Rattle.avro_bin.specs.Schema.{schema}
use Rattle.avro_bin.specs.Reading.{value_at}
use Rattle.avro_bin.specs.View.{value_of}
use Rattle.avro_bin.proofs.FoundLemmas.{triple_ok}
use Rattle.avro_bin.proofs.WholeLemmas.{is_read, reads, is_refused, refuses, same_refusal, never}
use Rattle.avro_bin.proofs.TypedLemmas.{has_schema}
use Rattle.avro_bin.specs.Laws.{read_value, node_limit}
use Rattle.avro_bin.proofs.decoding.decode.Goals as goal

pub returns-in-Ok-clause-found : goal.returns-in-Ok-clause-found
returns-in-Ok-clause-found c = rw c.saturating_sub.ensures (is_read (schema c.args.table.now.nodes.now c.args.id) node_limit c.args.bytes.now (value_of c.in-Ok.tree) _ c.in-Ok.rest.now (λ i. omega (arith, c.type_inv.bytes i)) c.in-Ok.ensures)

pub returns-in-Ok-clause-typed : goal.returns-in-Ok-clause-typed
returns-in-Ok-clause-typed c =
    let r = is_read (schema c.args.table.now.nodes.now c.args.id) node_limit c.args.bytes.now (value_of c.in-Ok.tree) _ c.in-Ok.rest.now (λ i. omega (arith, c.type_inv.bytes i)) c.in-Ok.ensures in
    has_schema (schema c.args.table.now.nodes.now c.args.id) (value_of c.in-Ok.tree) _ r.spelled

pub returns-in-Ok-clause-only : goal.returns-in-Ok-clause-only
returns-in-Ok-clause-only c = λ v len r.
    let q = reads (schema c.args.table.now.nodes.now c.args.id) node_limit c.args.bytes.now v len r in
    let p = triple_ok (value_of c.in-Ok.tree) v _ (node_limit - nodes v) c.in-Ok.rest.now (drop len c.args.bytes.now) (sym c.in-Ok.ensures ∙ q) in
    (p.0, omega (arith, c.saturating_sub.ensures, ap length p.2, length-drop len c.args.bytes.now, r.within))

pub returns-in-Ok-clause-refused : goal.returns-in-Ok-clause-refused
returns-in-Ok-clause-refused c = λ e r.
    never (value_at (schema c.args.table.now.nodes.now c.args.id) node_limit c.args.bytes.now) _ _ (refuses (schema c.args.table.now.nodes.now c.args.id) node_limit c.args.bytes.now e r) c.in-Ok.ensures

pub returns-in-Err-At-clause-only : goal.returns-in-Err-At-clause-only
returns-in-Err-At-clause-only c = λ v len r.
    absurd (never (value_at (schema c.args.table.now.nodes.now c.args.id) node_limit c.args.bytes.now) (c.in-Err-At.why, c.in-Err-At.left) ((v, node_limit - nodes v), drop len c.args.bytes.now) (rw c.in-Err-At.field-0-is at c.in-Err-At.ensures) (reads (schema c.args.table.now.nodes.now c.args.id) node_limit c.args.bytes.now v len r))

pub returns-in-Err-At-clause-failed : goal.returns-in-Err-At-clause-failed
returns-in-Err-At-clause-failed c =
    let r = is_refused (schema c.args.table.now.nodes.now c.args.id) node_limit c.args.bytes.now c.in-Err-At.why c.in-Err-At.left (λ i. omega (arith, c.type_inv.bytes i)) (rw c.in-Err-At.field-0-is at c.in-Err-At.ensures) in
    inl (rw (c.refusal_at.ensures, c.saturating_sub-in-Err-At.ensures) r)

pub returns-in-Err-At-clause-refused : goal.returns-in-Err-At-clause-refused
returns-in-Err-At-clause-refused c = λ e r.
    inl (rw (c.refusal_at.ensures, c.saturating_sub-in-Err-At.ensures) (same_refusal (schema c.args.table.now.nodes.now c.args.id) node_limit c.args.bytes.now c.in-Err-At.why c.in-Err-At.left e (rw c.in-Err-At.field-0-is at c.in-Err-At.ensures) r))

pub returns-in-Ok-clause-exact : goal.returns-in-Ok-clause-exact
unfolding read_value
returns-in-Ok-clause-exact c = rw (c.in-Ok.ensures, c.saturating_sub.ensures) refl

pub returns-in-Err-At-clause-exact : goal.returns-in-Err-At-clause-exact
unfolding read_value
returns-in-Err-At-clause-exact c =
    let e = rw c.in-Err-At.field-0-is at c.in-Err-At.ensures in
    inr (rw (e, c.refusal_at.ensures, c.saturating_sub-in-Err-At.ensures) refl)
