use Rattle.session_core.proofs.FittingLemmas.{answers_fit}
use Rattle.session_core.proofs.laws.answer_fits.Goals as goal

pub returns : goal.returns
returns c = answers_fit
