use Rattle.std.proofs.Common.{◌≡◌, ◌∙◌, ap}
use Rattle.std.specs.Vec.Iter.{into_iter_items}
use Rattle.etp_frame.specs.Chunking.{as_sent, sent_amount}
use Rattle.etp_frame.specs.Grouping.{groups}
use Rattle.etp_frame.proofs.ChunkLemmas.{sent_key, in_reply, sent_sorted}
use Rattle.etp_frame.proofs.GroupLemmas.{groups_sorted}
use Rattle.etp_frame.proofs.LoopLemmas.{flat_nil, flat_more, first_sorted, rest_sorted}
use Rattle.etp_frame.proofs.parts.objects.reply_parts.Goals as goal

pub loop-group-init : goal.loop-group-init
loop-group-init c =
    let all = as_sent c.args.limit c.args.number c.args.blobs c.args.reply.data_objects in
    let sent = c.in_ok-sent.ensures ∙ ap (as_sent c.args.limit c.args.number c.args.blobs) c.into_vec-objects.ensures.items in
    let is : into_iter_items c.into_iter-group-iterator.result ≡ groups sent_amount c.args.limit all =
    c.into_iter-group-iterator.ensures.into_iter_gives.0 ∙ c.in_ok-in_groups.ensures ∙ ap (groups sent_amount c.args.limit) sent in
    record {
      made = flat_nil in_reply _ _ _ c.new-parts.ensures.items is;
      sorted = groups_sorted sent_key sent_amount c.args.limit c.in_ok-sent.sent.items _ (c.into_iter-group-iterator.ensures.into_iter_gives.0 ∙ c.in_ok-in_groups.ensures)
          (sent_sorted c.args.limit c.args.number c.args.blobs c.args.reply.data_objects c.in_ok-sent.sent.items sent c.into_vec-objects.ensures.sorted);
    }

pub push_with_chunks-requires : goal.push_with_chunks-requires
push_with_chunks-requires c = first_sorted sent_key c.in-Some.group c.into_vec-own.result.items _ _ c.in-Some.ensures.steps.0 c.loop-group.invariant.sorted c.into_vec-own.ensures

pub loop-group-preserved : goal.loop-group-preserved
loop-group-preserved c = record {
  made = flat_more in_reply _ _ c.in-Some.group c.into_vec-own.result.items _ _ _ c.in-Some.ensures.steps.0 c.loop-group.invariant.made c.in_ok-push_with_chunks.ensures c.into_vec-own.ensures;
  sorted = rest_sorted sent_key c.in-Some.group _ _ c.in-Some.ensures.steps.0 c.loop-group.invariant.sorted;
}
