use Rattle.std.proofs.Common.{◌≤◌, ◌+◌, length}
use Rattle.std.specs.VecDeque.{deque_len}
use Rattle.array_store.specs.Going.{Gathering}
use Rattle.array_store.proofs.going.GoingArrays.gather.Given as goal

abbrev pub invariant-loop-n : goal.invariant-loop-n
invariant-loop-n l = record {
  each : Gathering l.self l.queue.items l.n l.fn.ops;
  some : l.n ≤ deque_len l.queue;
  len : deque_len l.queue ≤ length l.fn.ops;
  used : l.fn.self.room + deque_len l.queue ≤ l.self.room + length l.fn.ops;
}

abbrev pub decreases-loop-n : goal.decreases-loop-n
decreases-loop-n l = l.n
