use Rattle.std.proofs.Common.{◌∙◌, Some, ap, sym}
use Rattle.std.proofs.lemmas.Result.{err_from_is_err_and}
use Rattle.avro_bin.specs.Along.{along, seen}
use Rattle.avro_bin.proofs.PassingLemmas.{Fails-along}
use Rattle.avro_bin.proofs.StepLemmas.{Fails-same}
use Rattle.etp_schema.proofs.ItemLemmas.{option_some}
use Rattle.etp_schema.proofs.many_on_wire.OptionOnWire.read.Goals as goal

pub returns-in_err-value : goal.returns-in_err-value
returns-in_err-value g c =
    let f = g.T.Typed.form in
    let p = err_from_is_err_and c.from_residual-in_err-value.result c.from_residual-in_err-value.ensures.1 in
    let is = option_some f _ _ _ _ _ _ _ c.in_ok-node.ensures.0 c.in_ok-node.ensures.1 c.in_ok-place.ensures.read.0 c.in_ok-place.ensures.read.1 c.if-place-eq0.false in
    rw (p.1, p.2) (Fails-same c.in_err-value.field-0.0 _ _ (Fails-along c.in_err-value.field-0.0 (seen Some) _ c.in_err-value.ensures) (sym is))

pub returns : goal.returns
returns g c =
    let is = option_some g.T.Typed.form _ _ _ _ _ _ _ c.in_ok-node.ensures.0 c.in_ok-node.ensures.1 c.in_ok-place.ensures.read.0 c.in_ok-place.ensures.read.1 c.if-place-eq0.false in
    is ∙ ap (along (seen Some)) c.in_ok-value.ensures
