use Rattle.std.proofs.Common.{◌≡◌, drop}
use Rattle.client_core.specs.Notices.{are_live}
use Rattle.client_core.proofs.channels.Channels.are_live.Given as goal

abbrev pub invariant-loop-change : goal.invariant-loop-change
invariant-loop-change l = are_live l.self (drop l.change-index l.changes) ≡ are_live l.self l.changes
