use Rattle.etp_frame.proofs.JoinLemmas.{joins_whole, whole_at_once}
use Rattle.etp_frame.proofs.joining.joins_whole.Goals as goal

pub returns-clause-of_chunks : goal.returns-clause-of_chunks
returns-clause-of_chunks c = joins_whole

pub returns-clause-at_once : goal.returns-clause-at_once
returns-clause-at_once c = whole_at_once
