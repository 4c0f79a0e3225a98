use Rattle.std.specs.Prelude.{not}
use Rattle.std.specs.Ordering.{int_eq}
use Rattle.std.proofs.Common.{rules}
use Rattle.std.proofs.lemmas.Fn.{filter_same}
use Rattle.client_core.specs.declared.state.Asked.{Asked}
use Rattle.client_core.proofs.asks.retain_others.Goals as goal

pub returns : goal.returns
returns c = filter_same _ (λ (a : Asked). not (int_eq a.id c.args.id)) _ (λ x b g h. search rules) _ _ c.retain.ensures.filtered
