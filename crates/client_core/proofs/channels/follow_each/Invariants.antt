use Rattle.std.proofs.Common.{◌≡◌}
use Rattle.client_core.specs.Notices.{followed}
use Rattle.client_core.proofs.ChannelLemmas.{first_mapped}
use Rattle.client_core.proofs.channels.follow_each.Given as goal

abbrev pub invariant-loop-channel : goal.invariant-loop-channel
invariant-loop-channel l = l.channels ≡ first_mapped (followed l.change) l.channel-index l.fn.channels
