use Rattle.store_machine.proofs.JudgingLemmas.{plans-first}
use Rattle.store_machine.proofs.draft.Draft.new.Goals as goal

pub returns-clause-plan : goal.returns-clause-plan
returns-clause-plan g c = λ t sofar h. plans-first t _ sofar (c.new-3.ensures t) h
