use Rattle.std.proofs.Common.{◌≡◌, ◌++◌}
use Rattle.std.specs.List.{AllByRecursion, flat_map}
use Rattle.std.specs.Vec.Iter.{into_iter_items}
use Rattle.etp_frame.specs.Splitting.{reply_parts}
use Rattle.etp_frame.proofs.ChunkLemmas.{sent_key, in_reply}
use Rattle.etp_frame.proofs.LoopLemmas.{Sorted}
use Rattle.etp_frame.proofs.parts.objects.reply_parts.Given as goal

abbrev pub invariant-loop-group : goal.invariant-loop-group
invariant-loop-group l = record {
  made : l.parts.items ++ flat_map in_reply (into_iter_items l.group-iterator) ≡ reply_parts l.limit l.number l.blobs l.fn.reply;
  sorted : AllByRecursion (Sorted sent_key) (into_iter_items l.group-iterator);
}
