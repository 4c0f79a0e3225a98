use Rattle.etp_capture.proofs.AnswerLemmas.{some_answer}
use Rattle.etp_capture.proofs.laws.each_input_has_an_answer.Goals as goal

pub returns : goal.returns
returns c = some_answer
