use Rattle.etp_frame.proofs.ReadingLemmas.{refused_alike}
use Rattle.etp_frame.proofs.laws.same_refusals.Goals as goal

pub returns : goal.returns
returns c = refused_alike
