use Rattle.std.proofs.Common.{◌∙◌}
use Rattle.etp_schema.proofs.ItemLemmas.{items_measured}
use Rattle.etp_schema.proofs.many_on_wire.ListOnWire.measure.Goals as goal

pub returns : goal.returns
returns g c =
    let is = rw c.as_slice.ensures at c.measure_items.ensures in
    is ∙ items_measured g.T.Typed.form c.args.self.now
