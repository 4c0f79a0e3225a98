use Rattle.msg_core.specs.Core.{core_found, core_again}
use Rattle.msg_core.proofs.core_messages.core_laws.Goals as goal

pub returns-clause-found : goal.returns-clause-found
returns-clause-found c = core_found

pub returns-clause-again : goal.returns-clause-again
returns-clause-again c = core_again
