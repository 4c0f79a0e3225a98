use Rattle.etp_frame.proofs.WireLemmas.{written_read}
use Rattle.etp_frame.proofs.laws.written_is_read.Goals as goal

pub returns : goal.returns
returns c = written_read
