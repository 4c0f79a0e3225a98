use Rattle.msg_channel.specs.ChannelDataLoad.{channel_data_load_found, channel_data_load_again}
use Rattle.msg_channel.proofs.channel_data_load_messages.channel_data_load_laws.Goals as goal

pub returns-clause-found : goal.returns-clause-found
returns-clause-found c = channel_data_load_found

pub returns-clause-again : goal.returns-clause-again
returns-clause-again c = channel_data_load_again
