use Rattle.std.proofs.Common.{◌≡◌, ◌++◌}
use Rattle.std.specs.Vec.Iter.{into_iter_items}
use Rattle.etp_frame.specs.Chunking.{with_chunks}
use Rattle.etp_frame.proofs.sending.push_with_chunks.Given as goal

abbrev pub invariant-loop-chunk : goal.invariant-loop-chunk
invariant-loop-chunk g l = l.into.items ++ into_iter_items l.chunk-iterator ≡ l.fn.into.items ++ with_chunks (g.W.WithEntries.whole l.rest) l.fn.sent.items
