use Rattle.std.specs.Prelude.{OnOk}
use Rattle.std.proofs.Common.{sym, subst}
use Rattle.avro_bin.specs.Shape.{HasSchema}
use Rattle.msg_channel.specs.ChannelSubscribe.{channel_subscribe_body, range_replaced_form}
use Rattle.msg_channel.specs.declared.channel_subscribe_messages.ChannelSubscribeMessage.{ChannelSubscribeMessage}
use Rattle.etp_schema.proofs.PartLemmas.{typed_as}
use Rattle.message_trees.proofs.channel_subscribe_messages.ChannelSubscribeMessageBodyInTree.to_tree.Goals as goal

pub returns-in-RangeReplaced-clause-typed : goal.returns-in-RangeReplaced-clause-typed
returns-in-RangeReplaced-clause-typed c =
    let r = c.to_tree-in-RangeReplaced.result in
    subst (λ (m : ChannelSubscribeMessage). OnOk r (HasSchema (channel_subscribe_body m).schema (channel_subscribe_body m).value)) (sym c.in-RangeReplaced.is)
    (typed_as range_replaced_form c.in-RangeReplaced.message r c.to_tree-in-RangeReplaced.ensures.typed)
