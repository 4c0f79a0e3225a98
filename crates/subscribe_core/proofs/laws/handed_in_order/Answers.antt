use Rattle.subscribe_core.proofs.CallLemmas.{few-pending, few-subs, handed-told, one-each}
use Rattle.subscribe_core.proofs.laws.handed_in_order.Goals as goal

pub returns : goal.returns
returns c = record { told = handed-told; pending = few-pending; subs = few-subs; one = one-each }
