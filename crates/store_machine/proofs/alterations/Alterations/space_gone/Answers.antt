use Rattle.std.proofs.Common.{ap, ◌∙◌, drop}
use Rattle.entry_index.specs.Where.{first_where}
use Rattle.tx_stage.specs.declared.key.Key.TheVariants.{Space}
use Rattle.store_machine.specs.Marking.{entry_removes}
use Rattle.store_machine.proofs.alterations.Alterations.space_gone.Goals as goal

pub returns : goal.returns
returns c = λ history m. c.removed_first.ensures history m ∙ ap (λ p. first_where (entry_removes (Space p)) c.args.from (drop c.args.from history)) c.in_ok-path.ensures
