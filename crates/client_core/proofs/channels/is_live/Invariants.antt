use Rattle.std.proofs.Common.{◌≡◌, drop}
use Rattle.client_core.specs.Notices.{is_live}
use Rattle.client_core.proofs.channels.is_live.Given as goal

abbrev pub invariant-loop-channel : goal.invariant-loop-channel
invariant-loop-channel l = is_live l.id (drop l.channel-index l.channels) ≡ is_live l.id l.channels
