use Rattle.tx_stage.proofs.LookLemmas.{looks-same}
use Rattle.tx_stage.proofs.laws.look_laws.Goals as goal

pub returns : goal.returns
returns c = looks-same
