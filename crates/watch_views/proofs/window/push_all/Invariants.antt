use Rattle.std.proofs.Common.{◌≡◌, ◌≤◌, ◌++◌, length}
use Rattle.std.specs.Vec.Iter.{into_iter_items}
use Rattle.circular_buffer.specs.Buffer.{keep_last}
use Rattle.watch_views.proofs.window.push_all.Given as goal

abbrev pub invariant-loop-added : goal.invariant-loop-added
invariant-loop-added l = record {
  items : keep_last l.fn.ring.capacity (l.ring.items ++ into_iter_items l.added-iterator) ≡ keep_last l.fn.ring.capacity (l.fn.ring.items ++ l.fn.points.items);
  within : length l.ring.items ≤ l.fn.ring.capacity;
  capacity : l.ring.capacity ≡ l.fn.ring.capacity;
}
