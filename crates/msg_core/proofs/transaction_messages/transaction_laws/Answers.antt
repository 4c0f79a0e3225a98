use Rattle.msg_core.specs.Transaction.{transaction_found, transaction_again}
use Rattle.msg_core.proofs.transaction_messages.transaction_laws.Goals as goal

pub returns-clause-found : goal.returns-clause-found
returns-clause-found c = transaction_found

pub returns-clause-again : goal.returns-clause-again
returns-clause-again c = transaction_again
