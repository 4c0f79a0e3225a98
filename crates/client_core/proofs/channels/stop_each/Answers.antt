use Rattle.std.proofs.Common.{sym}
use Rattle.std.specs.Map.{values_of}
use Rattle.client_core.specs.Notices.{stop}
use Rattle.client_core.proofs.ChannelLemmas.{mapped_all, mapped_more}
use Rattle.client_core.proofs.channels.stop_each.Goals as goal

pub loop-channel-preserved : goal.loop-channel-preserved
loop-channel-preserved c =
    mapped_more (stop (values_of c.args.named.now)) c.args.channels.now c.loop-channel.channels c.loop-channel.channel-index c.channel-item.result _ _ c.loop-channel-test.true c.loop-channel.invariant c.channel-item.is
    (sym c.channel-item.is) c.stop_one.ensures

pub returns : goal.returns
returns c = mapped_all (stop (values_of c.args.named.now)) c.args.channels.now _ c.loop-channel.channel-index c.loop-channel-test.false c.loop-channel.invariant
