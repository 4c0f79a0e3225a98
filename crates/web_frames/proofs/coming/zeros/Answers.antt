use Rattle.web_frames.proofs.MessageLemmas.{filled}
use Rattle.web_frames.proofs.coming.zeros.Goals as goal

pub returns : goal.returns
returns c = filled _ _ _ _ c.in_ok-bytes.ensures.items c.in_ok-bytes.ensures.len c.in_ok-resize.ensures.items
