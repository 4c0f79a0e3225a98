use Rattle.store_machine.proofs.MarkedLemmas.{marks-first}
use Rattle.store_machine.proofs.alterations.Alterations.new.Goals as goal

pub returns : goal.returns
returns c = marks-first _ c.new.ensures.places c.new-2.ensures.places c.new.ensures.past c.new-2.ensures.past c.new-watches.ensures.items
