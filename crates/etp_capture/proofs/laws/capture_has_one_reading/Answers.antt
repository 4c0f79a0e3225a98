use Rattle.etp_capture.proofs.AnswerLemmas.{one_capture, one_fault, no_fault}
use Rattle.etp_capture.proofs.laws.capture_has_one_reading.Goals as goal

pub returns-clause-frames : goal.returns-clause-frames
returns-clause-frames c = one_capture

pub returns-clause-fault : goal.returns-clause-fault
returns-clause-fault c = one_fault

pub returns-clause-either : goal.returns-clause-either
returns-clause-either c = no_fault
