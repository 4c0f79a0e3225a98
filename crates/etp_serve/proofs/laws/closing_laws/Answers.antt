use Rattle.etp_serve.proofs.CloseLemmas.{served_over}
use Rattle.etp_serve.proofs.EnteredLemmas.{each_entered}
use Rattle.etp_serve.proofs.laws.closing_laws.Goals as goal

pub returns-clause-served : goal.returns-clause-served
returns-clause-served c = served_over c.laws.ensures c.room_laws.ensures.full

pub returns-clause-entered : goal.returns-clause-entered
returns-clause-entered c = each_entered
