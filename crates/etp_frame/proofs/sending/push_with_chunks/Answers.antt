use Rattle.std.proofs.Common.{◌∙◌}
use Rattle.etp_frame.proofs.ChunkLemmas.{objects_sorted, with_chunks_first}
use Rattle.etp_frame.proofs.sending.push_with_chunks.Goals as goal

pub from_sorted-named-requires : goal.from_sorted-named-requires
from_sorted-named-requires g c = objects_sorted c.args.sent.items _ c.in_ok-apart.ensures.objects c.requires

pub loop-chunk-init : goal.loop-chunk-init
loop-chunk-init g c =
    with_chunks_first (g.W.WithEntries.whole c.args.rest.now) _ _ _ _ _ c.args.sent.items c.in_ok-push.ensures.items c.in_ok-message.ensures (c.from_sorted-named.ensures ∙ c.in_ok-apart.ensures.objects)
    (c.into_iter-chunk-iterator.ensures.into_iter_gives.0 ∙ c.in_ok-apart.ensures.chunks)
