use Rattle.msg_store.specs.Store.{store_found, store_again}
use Rattle.msg_store.proofs.store_messages.store_laws.Goals as goal

pub returns-clause-found : goal.returns-clause-found
returns-clause-found c = store_found

pub returns-clause-again : goal.returns-clause-again
returns-clause-again c = store_again
