use Rattle.std.proofs.Common.{◌≡◌, ◌++◌}
use Rattle.std.specs.List.{AllByRecursion}
use Rattle.std.specs.Vec.Iter.{into_iter_items}
use Rattle.etp_frame.specs.Grouping.{entry_amount, groups}
use Rattle.etp_frame.proofs.LoopLemmas.{Sorted, entry_key}
use Rattle.etp_frame.proofs.grouping.named_groups.Given as goal

abbrev pub invariant-loop-group : goal.invariant-loop-group
invariant-loop-group g l = record {
  made : l.named.items ++ into_iter_items l.group-iterator ≡ groups (entry_amount g.T.Typed.form) l.limit l.fn.items;
  sorted : AllByRecursion (Sorted entry_key) (into_iter_items l.group-iterator);
}
