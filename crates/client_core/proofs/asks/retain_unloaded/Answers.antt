use Rattle.std.specs.Prelude.{not}
use Rattle.std.proofs.Common.{rules}
use Rattle.std.proofs.lemmas.Fn.{filter_same}
use Rattle.client_core.specs.Answers.{is_loaded}
use Rattle.client_core.specs.declared.state.Asked.{Asked}
use Rattle.client_core.proofs.asks.retain_unloaded.Goals as goal

pub returns : goal.returns
returns c = filter_same _ (λ (a : Asked). not (is_loaded c.args.id a)) _ (λ x b g h. search rules) _ _ c.retain.ensures.filtered
