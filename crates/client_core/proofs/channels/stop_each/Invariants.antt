use Rattle.std.proofs.Common.{◌≡◌}
use Rattle.std.specs.Map.{values_of}
use Rattle.client_core.specs.Notices.{stop}
use Rattle.client_core.proofs.ChannelLemmas.{first_mapped}
use Rattle.client_core.proofs.channels.stop_each.Given as goal

abbrev pub invariant-loop-channel : goal.invariant-loop-channel
invariant-loop-channel l = l.channels ≡ first_mapped (stop (values_of l.named)) l.channel-index l.fn.channels
