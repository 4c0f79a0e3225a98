use Rattle.session_laws.proofs.WitnessLemmas.{serial_is_met}
use Rattle.session_laws.proofs.laws.serial_is_met.Goals as goal

pub returns : goal.returns
returns c = serial_is_met
