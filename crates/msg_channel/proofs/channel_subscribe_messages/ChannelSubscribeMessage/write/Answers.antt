use Rattle.std.specs.Prelude.{OnOk}
use Rattle.std.proofs.Common.{sym, subst}
use Rattle.avro_bin.specs.Plain.{plain, Writes}
use Rattle.avro_bin.specs.Shape.{HasSchema, FitsTree}
use Rattle.msg_channel.specs.ChannelSubscribe.{channel_subscribe_body, range_replaced_form}
use Rattle.msg_channel.specs.declared.channel_subscribe_messages.ChannelSubscribeMessage.{ChannelSubscribeMessage}
use Rattle.etp_schema.proofs.PartLemmas.{typed_as}
use Rattle.msg_channel.proofs.channel_subscribe_messages.ChannelSubscribeMessage.write.Goals as goal

pub returns-in-RangeReplaced-clause-written : goal.returns-in-RangeReplaced-clause-written
returns-in-RangeReplaced-clause-written c = subst (λ (m : ChannelSubscribeMessage). Writes (plain (channel_subscribe_body m).value) c.args.into.now.items c.write-in-RangeReplaced.new.into.items c.write-in-RangeReplaced.result) (sym c.in-RangeReplaced.is) c.write-in-RangeReplaced.ensures.written

pub returns-in-RangeReplaced-clause-typed : goal.returns-in-RangeReplaced-clause-typed
returns-in-RangeReplaced-clause-typed c =
    let r = c.write-in-RangeReplaced.result in
    subst (λ (m : ChannelSubscribeMessage). OnOk r (HasSchema (channel_subscribe_body m).schema (channel_subscribe_body m).value)) (sym c.in-RangeReplaced.is)
    (typed_as range_replaced_form c.in-RangeReplaced.message r c.write-in-RangeReplaced.ensures.typed)

pub returns-in-RangeReplaced-clause-fits : goal.returns-in-RangeReplaced-clause-fits
returns-in-RangeReplaced-clause-fits c = subst (λ (m : ChannelSubscribeMessage). OnOk c.write-in-RangeReplaced.result (FitsTree (channel_subscribe_body m).value)) (sym c.in-RangeReplaced.is) c.write-in-RangeReplaced.ensures.fits
