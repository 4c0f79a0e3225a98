use Rattle.std.proofs.Common.{rules}
use Rattle.std.proofs.lemmas.Fn.{filter_same}
use Rattle.etp_values.specs.declared.point.Point.{Point}
use Rattle.channel_store.specs.Points.{at_most}
use Rattle.channel_store.proofs.copy.keep_up_to.Goals as goal

pub returns : goal.returns
returns c = filter_same _ (λ (x : Point). at_most x.index c.args.end) _ (λ x b g h. search rules) _ _ c.retain.ensures.filtered
