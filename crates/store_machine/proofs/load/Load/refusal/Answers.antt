use Rattle.store_machine.specs.Loads.{load_refusal}
use Rattle.store_machine.proofs.load.Load.refusal.Goals as goal

pub returns-clause-code : goal.returns-clause-code
returns-clause-code c = c.in_ok-refusal.ensures (load_refusal c.args.channels.now c.args.self.now) c.test.ensures.answer
