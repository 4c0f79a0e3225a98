use Rattle.std.proofs.Common.{◌≤◌}
use Rattle.store_machine.proofs.watch.oldest.Given as goal

abbrev pub invariant-loop-watch : goal.invariant-loop-watch
invariant-loop-watch l = record {
  oldest : l.oldest ≤ l.place;
  place : l.place ≤ l.watch-index;
}
