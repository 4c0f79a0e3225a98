use Rattle.std.proofs.Common.{◌≤◌}
use Rattle.store_machine.proofs.watch.place_of.Given as goal

abbrev pub invariant-loop-watch : goal.invariant-loop-watch
invariant-loop-watch l = l.place ≤ l.watch-index
