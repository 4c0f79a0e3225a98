use Rattle.capture_text.proofs.ValueLemmas.{text_one}
use Rattle.capture_text.proofs.laws.one_text.Goals as goal

pub returns : goal.returns
returns c = text_one
