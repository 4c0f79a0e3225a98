use Rattle.etp_frame.proofs.WireLemmas.{reads_whole}
use Rattle.etp_frame.proofs.laws.wire_form_is_read.Goals as goal

pub returns : goal.returns
returns c = reads_whole
