use Rattle.etp_frame.proofs.FeedingLemmas.{refused_stays_is}
use Rattle.etp_frame.proofs.pieces.refused_stays.Goals as goal

pub returns : goal.returns
returns c = refused_stays_is
