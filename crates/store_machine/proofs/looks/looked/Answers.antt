use Rattle.store_machine.proofs.LawfulLemmas.{seen-tables}
use Rattle.store_machine.proofs.looks.looked.Goals as goal

pub returns : goal.returns
returns c = λ history h. seen-tables c.args.contents.now history c.args.wants.now c.in_ok-seen.seen h c.in_ok-seen.ensures
