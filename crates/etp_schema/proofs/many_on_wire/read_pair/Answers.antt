use Rattle.std.proofs.lemmas.Result.{err_from_is_err_and}
use Rattle.etp_schema.proofs.PairLemmas.{pair_no_name, pair_fails, pair_is}
use Rattle.etp_schema.proofs.many_on_wire.read_pair.Goals as goal

pub returns-in_err-name : goal.returns-in_err-name
returns-in_err-name g c =
    let p = err_from_is_err_and c.from_residual.result c.from_residual.ensures.1 in
    rw (p.1, p.2) (pair_no_name g.T.Typed.form.at c.args.pairs.now.items c.args.from.now.left c.args.from.now.rest.now c.in_err-name.field-0.0 c.in_err-name.ensures)

pub returns-in_err-value : goal.returns-in_err-value
returns-in_err-value g c =
    let p = err_from_is_err_and c.from_residual-in_err-value.result c.from_residual-in_err-value.ensures.1 in
    let h = rw c.in_ok-name.ensures.1 at c.in_err-value.ensures in
    rw (p.1, p.2) (pair_fails g.T.Typed.form.at c.args.pairs.now.items c.args.from.now.left c.args.from.now.rest.now c.in_err-value.field-0.0 c.in_ok-name.name _ c.in_ok-name.ensures.0 h)

pub returns : goal.returns
returns g c =
    let h = rw c.in_ok-name.ensures.1 at c.in_ok-value.ensures in
    rw c.in_ok-push.ensures.items (pair_is g.T.Typed.form.at c.args.pairs.now.items c.args.from.now.left c.args.from.now.rest.now c.in_ok-name.name _ _ c.in_ok-name.ensures.0 h)
