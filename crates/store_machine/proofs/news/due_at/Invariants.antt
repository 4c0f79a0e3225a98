use Rattle.std.proofs.Common.{◌≡◌, ◌++◌, drop}
use Rattle.store_machine.specs.Telling.{due_at}
use Rattle.store_machine.proofs.news.due_at.Given as goal

abbrev pub invariant-loop-each : goal.invariant-loop-each
invariant-loop-each l = l.due.items ++ due_at l.channels (drop l.each-index l.followed) l.place ≡ due_at l.channels l.followed l.place
