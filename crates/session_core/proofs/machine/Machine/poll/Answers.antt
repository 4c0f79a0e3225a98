use Rattle.session_core.specs.declared.state.Arrived.TheVariants.{Polled}
use Rattle.session_core.proofs.StepLemmas.{phase_asks}
use Rattle.session_core.proofs.machine.Machine.poll.Goals as goal

pub returns-clause-asks : goal.returns-clause-asks
returns-clause-asks c = phase_asks c.args.self.now c.args.self.now.phase (Polled c.args.front) c.by_phase.result c.by_phase.ensures.call
