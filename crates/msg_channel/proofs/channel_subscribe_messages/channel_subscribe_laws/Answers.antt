use Rattle.msg_channel.specs.ChannelSubscribe.{channel_subscribe_found, channel_subscribe_again}
use Rattle.msg_channel.proofs.channel_subscribe_messages.channel_subscribe_laws.Goals as goal

pub returns-clause-found : goal.returns-clause-found
returns-clause-found c = channel_subscribe_found

pub returns-clause-again : goal.returns-clause-again
returns-clause-again c = channel_subscribe_again
