use Rattle.std.proofs.Common.{◌∙◌}
use Rattle.etp_schema.proofs.ItemLemmas.{entries_measured}
use Rattle.etp_schema.proofs.many_on_wire.NamedOnWire.measure.Goals as goal

pub returns : goal.returns
returns g c = c.measure_entries.ensures ∙ entries_measured g.T.Typed.form c.args.self.now
