use Rattle.std.specs.Prelude.{not}
use Rattle.std.specs.Ordering.{int_eq}
use Rattle.std.proofs.Common.{rules}
use Rattle.std.proofs.lemmas.Fn.{filter_same}
use Rattle.channel_store.specs.declared.subscription.Sub.{Sub}
use Rattle.subscribe_core.proofs.standing.retain_others.Goals as goal

pub returns : goal.returns
returns c = filter_same _ (λ (s : Sub). not (int_eq s.channel c.args.channel)) _ (λ x b g h. search rules) _ _ c.retain.ensures.filtered
