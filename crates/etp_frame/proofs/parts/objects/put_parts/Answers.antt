use Rattle.std.proofs.Common.{◌∙◌, ap}
use Rattle.msg_store.specs.declared.store_messages.StoreMessage.TheVariants as s
use Rattle.etp_frame.specs.declared.message.Message.TheVariants as m
use Rattle.etp_frame.specs.Chunking.{as_sent}
use Rattle.etp_frame.proofs.ChunkLemmas.{sent_sorted, only_parts}
use Rattle.etp_frame.proofs.parts.objects.put_parts.Goals as goal

pub push_with_chunks-requires : goal.push_with_chunks-requires
push_with_chunks-requires c =
    let is = c.in_ok-sent.ensures ∙ ap (as_sent c.args.limit c.args.number c.args.blobs) c.into_vec-objects.ensures.items in
    sent_sorted c.args.limit c.args.number c.args.blobs c.args.put.data_objects c.in_ok-sent.sent.items is c.into_vec-objects.ensures.sorted

pub returns : goal.returns
returns c =
    let is = c.in_ok-sent.ensures ∙ ap (as_sent c.args.limit c.args.number c.args.blobs) c.into_vec-objects.ensures.items in
    c.from_vec.ensures
    ∙ only_parts (λ g. m.Store (s.PutDataObjects (record c.args.put { data_objects = g }))) _ _ c.in_ok-sent.sent.items (as_sent c.args.limit c.args.number c.args.blobs c.args.put.data_objects) c.new-parts.ensures.items c.in_ok-push_with_chunks.ensures is
