-- The parts so far, and those of the messages that are left, make the whole.
use Rattle.std.proofs.Common.{◌≡◌, ◌++◌, length}
use Rattle.std.specs.Vec.Iter.{into_iter_items}
use Rattle.session_core.specs.Sending.{ended}
use Rattle.session_core.proofs.parting.push_ended.Given as goal

abbrev pub invariant-loop-message : goal.invariant-loop-message
invariant-loop-message l = record {
  left : l.left ≡ length (into_iter_items l.message-iterator);
  parts : l.parts.items ++ ended l.to (into_iter_items l.message-iterator) ≡ l.fn.parts.items ++ ended l.fn.to l.fn.messages;
}
