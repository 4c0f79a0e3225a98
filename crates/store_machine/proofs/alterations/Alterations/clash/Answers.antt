use Rattle.std.proofs.Common.{sym, ◌∙◌}
use Rattle.store_machine.specs.Clash.{least}
use Rattle.store_machine.proofs.MarkedLemmas.{clash-is}
use Rattle.store_machine.proofs.alterations.Alterations.clash.Goals as goal

pub returns : goal.returns
returns c = λ history m. c.earlier.ensures ∙ (λ j. least (c.own_first.ensures history m j) (c.in_ok-owner.ensures history m j)) ∙ sym (clash-is c.args.key.now c.args.from history)
