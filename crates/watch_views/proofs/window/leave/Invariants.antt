use Rattle.std.proofs.Common.{◌≡◌, ◌≤◌, ◌++◌, length, take, drop}
use Rattle.watch_views.specs.Held.{left_by}
use Rattle.watch_views.proofs.window.leave.Given as goal

abbrev pub invariant-loop : goal.invariant-loop
invariant-loop l = record {
  items : l.ring.items ≡ drop l.counter l.fn.ring.items ++ left_by l.what (take l.counter l.fn.ring.items);
  within : length l.ring.items ≤ l.ring.capacity;
  capacity : l.ring.capacity ≡ l.fn.ring.capacity;
}
