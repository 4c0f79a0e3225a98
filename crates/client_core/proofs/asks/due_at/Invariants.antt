use Rattle.std.proofs.Common.{◌≡◌, drop}
use Rattle.client_core.specs.Answers.{due_at}
use Rattle.client_core.proofs.asks.due_at.Given as goal

abbrev pub invariant-loop-asked : goal.invariant-loop-asked
invariant-loop-asked l = due_at l.id (drop l.asked-index l.asks) ≡ due_at l.id l.asks
