use Rattle.std.proofs.Common.{sym, ◌∙◌}
use Rattle.store_machine.proofs.ReadingLemmas.{room_over, size_there}
use Rattle.store_machine.proofs.reads.Room.left_by.Goals as goal

pub returns-in-None-clause-left : goal.returns-in-None-clause-left
returns-in-None-clause-left c = λ ps h. room_over c.args.self ps (sym c.in-None.is ∙ h)

pub returns-in-Some-clause-left : goal.returns-in-Some-clause-left
returns-in-Some-clause-left c = λ ps h. c.without.ensures.left ps (size_there c.args.self.points c.in-Some.size ps (sym c.in-Some.is ∙ h))
