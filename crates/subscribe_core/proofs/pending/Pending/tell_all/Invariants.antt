use Rattle.std.proofs.Common.{◌≡◌, ◌≤◌, ◌+◌, ◌++◌, length}
use Rattle.std.specs.List.{flat_map}
use Rattle.std.specs.Vec.Iter.{into_iter_items}
use Rattle.subscribe_core.specs.Views.{told}
use Rattle.subscribe_core.proofs.pending.Pending.tell_all.Given as goal

abbrev pub invariant-loop-change : goal.invariant-loop-change
invariant-loop-change l = record {
  told : l.self ++ flat_map (told l.subs) (into_iter_items l.change-iterator) ≡ l.fn.self ++ flat_map (told l.fn.subs) l.fn.changes.items;
  room : length l.self + length (into_iter_items l.change-iterator) ≤ 256;
}
