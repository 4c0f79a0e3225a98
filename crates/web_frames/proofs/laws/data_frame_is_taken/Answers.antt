use Rattle.web_frames.proofs.LawLemmas.{look-data}
use Rattle.web_frames.proofs.laws.data_frame_is_taken.Goals as goal

pub returns : goal.returns
returns c = look-data
