-- The bytes so far, and those of the messages that are left, make the whole; and there are ids for them.
use Rattle.std.proofs.Common.{◌≡◌, ◌++◌, ◌+◌, ◌*◌, ◌≤◌, drop, length}
use Rattle.client_core.specs.Asking.{max_id, numbered}
use Rattle.client_core.proofs.numbering.numbered.Given as goal

abbrev pub invariant-loop-message : goal.invariant-loop-message
invariant-loop-message l = record {
  left : l.left ≡ length (drop l.message-index l.messages);
  bytes : l.all.items ++ numbered l.first l.id (drop l.message-index l.messages) ≡ numbered l.first l.first l.messages;
  ids : l.id + 2 * length (drop l.message-index l.messages) ≤ max_id + 2;
}
