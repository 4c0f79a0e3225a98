use Rattle.std.proofs.Common.{◌≡◌, drop}
use Rattle.client_core.specs.Notices.{copy_in}
use Rattle.client_core.proofs.channels.find.Given as goal

abbrev pub invariant-loop-channel : goal.invariant-loop-channel
invariant-loop-channel l = copy_in l.id (drop l.channel-index l.channels) ≡ copy_in l.id l.channels
