use Rattle.std.proofs.Common.{ap, ◌∙◌, drop}
use Rattle.entry_index.specs.Where.{first_where}
use Rattle.tx_stage.specs.declared.key.Key.TheVariants.{Object}
use Rattle.store_machine.specs.Clash.{least}
use Rattle.store_machine.specs.Marking.{entry_removes}
use Rattle.store_machine.proofs.alterations.Alterations.array_gone.Goals as goal

pub returns : goal.returns
returns c = λ history m.
    let object = c.removed_first.ensures history m ∙ ap (λ u. first_where (entry_removes (Object u)) c.args.from (drop c.args.from history)) c.in_ok-uri.ensures in
    c.earlier.ensures ∙ (λ j. least (object j) (c.in_ok-space.ensures history m j))
