-- The parts so far, and those of what is left to send, make the whole.
use Rattle.std.proofs.Common.{◌≡◌, ◌++◌}
use Rattle.std.specs.Vec.Iter.{into_iter_items}
use Rattle.session_core.specs.Sending.{blobs_sent, cut_all}
use Rattle.session_core.proofs.parting.cut_all.Given as goal

abbrev pub invariant-loop-saying : goal.invariant-loop-saying
invariant-loop-saying l = record {
  parts : l.parts.items ++ cut_all l.limit l.number l.sent (into_iter_items l.saying-iterator) ≡ cut_all l.fn.limit l.fn.number l.fn.blobs l.fn.sayings;
  blobs : blobs_sent l.limit l.sent (into_iter_items l.saying-iterator) ≡ blobs_sent l.fn.limit l.fn.blobs l.fn.sayings;
}
