use Rattle.etp_capture.proofs.CaptureLemmas.{reads_back, writes_back}
use Rattle.etp_capture.proofs.laws.frame_is_read_back.Goals as goal

pub returns-clause-reads : goal.returns-clause-reads
returns-clause-reads c = reads_back

pub returns-clause-writes : goal.returns-clause-writes
returns-clause-writes c = writes_back
