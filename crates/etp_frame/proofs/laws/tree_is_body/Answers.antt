use Rattle.etp_frame.proofs.WireLemmas.{body_tree}
use Rattle.etp_frame.proofs.laws.tree_is_body.Goals as goal

pub returns : goal.returns
returns c = body_tree
