use Rattle.std.proofs.Common.{◌≡◌, ◌+◌, ◌≤◌, drop}
use Rattle.store_machine.specs.Telling.{set_marks}
use Rattle.store_machine.proofs.news.count_set.Given as goal

abbrev pub invariant-loop-mark : goal.invariant-loop-mark
invariant-loop-mark l = record {
  count : l.count + set_marks (drop l.mark-index l.marks) ≡ set_marks l.marks;
  within : l.count ≤ l.mark-index;
}
