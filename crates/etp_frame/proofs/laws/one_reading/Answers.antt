use Rattle.etp_frame.proofs.WireLemmas.{one_message}
use Rattle.etp_frame.proofs.laws.one_reading.Goals as goal

pub returns : goal.returns
returns c = one_message
