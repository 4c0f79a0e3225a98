use Rattle.std.proofs.Common.{◌≡◌, ◌++◌, ◌+◌, ◌*◌, ◌≤◌, length, drop}
use Rattle.etp_frame.specs.Chunking.{chunks_from, chunks_of}
use Rattle.etp_frame.proofs.sending.chunks_of.Given as goal

abbrev pub decreases-loop-left : goal.decreases-loop-left
decreases-loop-left l = l.left

abbrev pub invariant-loop-left : goal.invariant-loop-left
invariant-loop-left l = record {
  made : l.chunks.items ++ chunks_from l.size l.id l.left (drop l.start l.payload) ≡ chunks_of l.size l.id l.payload;
  room : l.start + l.left * l.size ≤ length l.payload;
}
