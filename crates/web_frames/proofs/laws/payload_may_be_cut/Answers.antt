use Rattle.web_frames.proofs.CutLemmas.{on_payload-cut}
use Rattle.web_frames.proofs.laws.payload_may_be_cut.Goals as goal

pub returns : goal.returns
returns c = on_payload-cut
