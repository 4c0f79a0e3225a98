use Rattle.std.proofs.Common.{◌≡◌, sym, subst}
use Rattle.etp_schema.specs.Measure.{measured}
use Rattle.msg_channel.specs.ChannelSubscribe.{channel_subscribe_body}
use Rattle.msg_channel.specs.declared.channel_subscribe_messages.ChannelSubscribeMessage.{ChannelSubscribeMessage}
use Rattle.msg_channel.proofs.channel_subscribe_messages.ChannelSubscribeMessage.measure.Goals as goal

pub returns-in-RangeReplaced : goal.returns-in-RangeReplaced
returns-in-RangeReplaced c = subst (λ (m : ChannelSubscribeMessage). c.measure-in-RangeReplaced.result ≡ measured (channel_subscribe_body m).value) (sym c.in-RangeReplaced.is) c.measure-in-RangeReplaced.ensures
