use Rattle.std.proofs.Common.{◌≡◌, drop}
use Rattle.client_core.specs.Notices.{follow_all}
use Rattle.client_core.proofs.channels.follow_all.Given as goal

abbrev pub invariant-loop-change : goal.invariant-loop-change
invariant-loop-change l = follow_all l.channels.items (drop l.change-index l.changes) ≡ follow_all l.fn.channels.items l.changes
