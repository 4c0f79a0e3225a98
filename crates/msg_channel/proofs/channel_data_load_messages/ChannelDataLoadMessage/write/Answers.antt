use Rattle.std.specs.Prelude.{OnOk}
use Rattle.std.proofs.Common.{sym, subst}
use Rattle.avro_bin.specs.Shape.{FitsTree}
use Rattle.msg_channel.specs.ChannelDataLoad.{channel_data_load_body}
use Rattle.msg_channel.specs.declared.channel_data_load_messages.ChannelDataLoadMessage.{ChannelDataLoadMessage}
use Rattle.msg_channel.proofs.channel_data_load_messages.ChannelDataLoadMessage.write.Goals as goal

pub returns-in-ReplaceRange-clause-fits : goal.returns-in-ReplaceRange-clause-fits
returns-in-ReplaceRange-clause-fits c = subst (λ (m : ChannelDataLoadMessage). OnOk c.write-in-ReplaceRange.result (FitsTree (channel_data_load_body m).value)) (sym c.in-ReplaceRange.is) c.write-in-ReplaceRange.ensures.fits
