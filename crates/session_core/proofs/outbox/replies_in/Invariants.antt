use Rattle.std.proofs.Common.{◌≡◌, ◌+◌, ◌≤◌, drop}
use Rattle.session_core.specs.Sending.{replies_in}
use Rattle.session_core.proofs.outbox.replies_in.Given as goal

abbrev pub invariant-loop-part : goal.invariant-loop-part
invariant-loop-part l = (l.count + replies_in (drop l.part-index l.parts) ≡ replies_in l.parts) × (l.count ≤ l.part-index)
