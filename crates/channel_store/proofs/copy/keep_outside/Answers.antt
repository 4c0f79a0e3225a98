use Rattle.std.proofs.Common.{rules}
use Rattle.std.specs.Prelude.{not}
use Rattle.std.proofs.lemmas.Fn.{filter_same}
use Rattle.etp_values.specs.declared.point.Point.{Point}
use Rattle.channel_store.specs.Points.{is_within}
use Rattle.channel_store.proofs.copy.keep_outside.Goals as goal

pub returns-clause-items : goal.returns-clause-items
returns-clause-items c = filter_same _ (λ (x : Point). not (is_within c.args.from c.args.to x.index)) _ (λ x b g h. search rules) _ _ c.retain.ensures.filtered
