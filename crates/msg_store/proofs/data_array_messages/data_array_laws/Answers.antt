use Rattle.msg_store.specs.DataArray.{data_array_found, data_array_again}
use Rattle.msg_store.proofs.data_array_messages.data_array_laws.Goals as goal

pub returns-clause-found : goal.returns-clause-found
returns-clause-found c = data_array_found

pub returns-clause-again : goal.returns-clause-again
returns-clause-again c = data_array_again
