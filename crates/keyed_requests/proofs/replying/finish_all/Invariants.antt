-- What is finished so far, and what is left, make the whole.
use Rattle.std.proofs.Common.{◌≡◌, ◌++◌}
use Rattle.std.specs.Vec.Iter.{into_iter_items}
use Rattle.keyed_requests.specs.Keyed.{finished, finished_state}
use Rattle.keyed_requests.proofs.replying.finish_all.Given as goal

abbrev pub invariant-loop-key : goal.invariant-loop-key
invariant-loop-key g l = record {
  finished : l.out.items ++ finished (g.A.KeyedReply.finish l.reply) g.A.KeyedReply.width l.state (into_iter_items l.key-iterator) l.findings ≡ finished (g.A.KeyedReply.finish l.reply) g.A.KeyedReply.width l.fn.state l.fn.items l.fn.findings;
  state : finished_state (g.A.KeyedReply.finish l.reply) g.A.KeyedReply.width l.state (into_iter_items l.key-iterator) l.findings ≡ finished_state (g.A.KeyedReply.finish l.reply) g.A.KeyedReply.width l.fn.state l.fn.items l.fn.findings;
}
