use Rattle.std.proofs.Common.{◌≡◌, ◌++◌}
use Rattle.std.specs.Vec.Iter.{into_iter_items}
use Rattle.etp_frame.specs.Chunking.{as_sent}
use Rattle.etp_frame.proofs.sending.as_sent.Given as goal

abbrev pub invariant-loop-object : goal.invariant-loop-object
invariant-loop-object l = l.sending.sent.items ++ as_sent l.limit l.number l.sending.count (into_iter_items l.object-iterator) ≡ as_sent l.limit l.number l.blobs l.fn.objects.items
