use Rattle.std.proofs.Common.{refl}
use Rattle.store_machine.proofs.MarkedLemmas.{marks-same}
use Rattle.store_machine.proofs.alterations.Alterations.reserve.Goals as goal

pub returns-in_err-reserve-clause-marks : goal.returns-in_err-reserve-clause-marks
returns-in_err-reserve-clause-marks c = λ history m. marks-same c.args.self.now _ history c.reserve.ensures.places refl c.reserve.ensures.past refl refl m

pub returns-clause-marks : goal.returns-clause-marks
returns-clause-marks c = λ history m. marks-same c.args.self.now _ history c.reserve.ensures.places c.reserve-2.ensures.places c.reserve.ensures.past c.reserve-2.ensures.past refl m
