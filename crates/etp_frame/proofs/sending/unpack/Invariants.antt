use Rattle.std.proofs.Common.{◌≡◌, ◌++◌, map}
use Rattle.std.specs.Vec.Iter.{into_iter_items}
use Rattle.etp_frame.specs.Chunking.{chunk_messages}
use Rattle.etp_frame.proofs.sending.unpack.Given as goal

abbrev pub invariant-loop-one : goal.invariant-loop-one
invariant-loop-one l = record {
  objects : l.objects.items ++ map (λ x. x.object) (into_iter_items l.one-iterator) ≡ map (λ x. x.object) l.fn.sent.items;
  chunks : l.chunks.items ++ chunk_messages (into_iter_items l.one-iterator) ≡ chunk_messages l.fn.sent.items;
}
