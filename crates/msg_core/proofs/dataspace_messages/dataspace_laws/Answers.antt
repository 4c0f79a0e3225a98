use Rattle.msg_core.specs.Dataspace.{dataspace_found, dataspace_again}
use Rattle.msg_core.proofs.dataspace_messages.dataspace_laws.Goals as goal

pub returns-clause-found : goal.returns-clause-found
returns-clause-found c = dataspace_found

pub returns-clause-again : goal.returns-clause-again
returns-clause-again c = dataspace_again
