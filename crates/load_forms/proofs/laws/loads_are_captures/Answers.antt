use Rattle.load_forms.proofs.SizeLemmas.{load_is_capture}
use Rattle.load_forms.proofs.laws.loads_are_captures.Goals as goal

pub returns : goal.returns
returns c = load_is_capture
