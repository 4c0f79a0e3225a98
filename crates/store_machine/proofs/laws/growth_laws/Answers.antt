use Rattle.store_machine.proofs.LawfulLemmas.{legal-call}
use Rattle.store_machine.proofs.laws.growth_laws.Goals as goal

pub returns : goal.returns
returns c = record { legal = legal-call }
