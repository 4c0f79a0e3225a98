use Rattle.web_frames.proofs.JoinLemmas.{added-joined}
use Rattle.web_frames.proofs.laws.pieces_are_joined.Goals as goal

pub returns : goal.returns
returns c = added-joined
