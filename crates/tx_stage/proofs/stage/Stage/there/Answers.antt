use Rattle.std.proofs.Common.{◌≡◌, false, sym, ap, ◌∙◌}
use Rattle.tx_stage.specs.Altered.{may_alter}
use Rattle.tx_stage.specs.Overlay.{there}
use Rattle.tx_stage.specs.Staging.{Transaction}
use Rattle.tx_stage.proofs.AlteredLemmas.{there-untouched}
use Rattle.tx_stage.proofs.stage.Stage.there.Goals as goal

pub returns-then-not-has : goal.returns-then-not-has
returns-then-not-has c =
    let s = c.self.inside in
    let key = c.args.key.now in
    let none : may_alter s.altered key ≡ false = sym c.has.ensures ∙ c.if-not-has.true in
    there-untouched s.altered s.ops.items key c.args.base c.self.invariant.found none ∙ ap (λ (x : Transaction). there x.ops key c.args.base) c.self.view_is
