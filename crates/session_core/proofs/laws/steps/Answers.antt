use Rattle.session_core.proofs.StepLemmas.{taking_asks, answers_are_last}
use Rattle.session_core.proofs.laws.steps.Goals as goal

pub returns : goal.returns
returns c = record {
  asks = taking_asks;
  answers = answers_are_last;
}
