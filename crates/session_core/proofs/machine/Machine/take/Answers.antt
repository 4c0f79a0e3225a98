use Rattle.session_core.proofs.StepLemmas.{phase_asks}
use Rattle.session_core.proofs.machine.Machine.take.Goals as goal

pub returns-clause-asks : goal.returns-clause-asks
returns-clause-asks c = phase_asks c.args.self.now c.args.self.now.phase c.in_ok-arrived.arrived c.by_phase.result c.by_phase.ensures.call
