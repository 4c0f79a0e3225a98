use Rattle.std.proofs.Common.{◌∙◌}
use Rattle.store_machine.proofs.MarkedLemmas.{finds-own}
use Rattle.store_machine.proofs.alterations.Alterations.own_first.Goals as goal

pub returns : goal.returns
returns c = λ history m. c.first_from.ensures ∙ finds-own c.args.self.now history c.args.key.now c.args.from m
