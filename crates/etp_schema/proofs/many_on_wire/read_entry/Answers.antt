use Rattle.std.proofs.Common.{◌≡◌, true, false, sym}
use Rattle.std.proofs.lemmas.Result.{err_from_is_err_and}
use Rattle.avro_bin.specs.Reading.{has}
use Rattle.avro_bin.proofs.PassingLemmas.{put_no_key, put_double, put_fails, put_is}
use Rattle.etp_schema.proofs.many_on_wire.read_entry.Goals as goal

pub returns-in_err-name : goal.returns-in_err-name
returns-in_err-name g c =
    let p = err_from_is_err_and c.from_residual.result c.from_residual.ensures.1 in
    rw (p.1, p.2) (put_no_key g.T.Typed.form.at c.args.held.now.entries c.args.from.now.left c.args.from.now.rest.now c.in_err-name.field-0.0 c.in_err-name.ensures)

pub returns-then-contains_key : goal.returns-then-contains_key
returns-then-contains_key g c =
    let d : has c.in_ok-name.name c.args.held.now.entries ≡ true = sym c.if-contains_key.ensures in
    rw c.rest-start.ensures (put_double g.T.Typed.form.at c.args.held.now.entries c.args.from.now.left c.args.from.now.rest.now c.in_ok-name.name _ c.in_ok-name.ensures.0 d)

pub returns-in_err-value : goal.returns-in_err-value
returns-in_err-value g c =
    let p = err_from_is_err_and c.from_residual-in_err-value.result c.from_residual-in_err-value.ensures.1 in
    let d : has c.in_ok-name.name c.args.held.now.entries ≡ false = sym c.if-contains_key.ensures in
    let h = rw c.in_ok-name.ensures.1 at c.in_err-value.ensures in
    rw (p.1, p.2) (put_fails g.T.Typed.form.at c.args.held.now.entries c.args.from.now.left c.args.from.now.rest.now c.in_err-value.field-0.0 c.in_ok-name.name _ c.in_ok-name.ensures.0 d h)

pub returns : goal.returns
returns g c =
    let d : has c.in_ok-name.name c.args.held.now.entries ≡ false = sym c.if-contains_key.ensures in
    let h = rw c.in_ok-name.ensures.1 at c.in_ok-value.ensures in
    rw c.in_ok-insert.ensures.entries (put_is g.T.Typed.form.at c.args.held.now.entries c.args.from.now.left c.args.from.now.rest.now c.in_ok-name.name _ _ c.in_ok-name.ensures.0 d h)
