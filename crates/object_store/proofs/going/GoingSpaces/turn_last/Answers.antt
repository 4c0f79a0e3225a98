use Rattle.object_store.proofs.GatheredLemmas.{turned}
use Rattle.object_store.proofs.going.GoingSpaces.turn_last.Goals as goal

pub returns-clause-each : goal.returns-clause-each
returns-clause-each c = λ n ops some so_far.
    turned c.args.self.now c.turn_op.new.self c.in-Some.op c.args.queue.now.items c.pop_back.new.self.items c.turn_op.new.queue.items n ops some c.in-Some.ensures.items c.turn_op.ensures.each so_far
