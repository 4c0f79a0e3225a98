use Rattle.std.proofs.Common.{rules}
use Rattle.object_store.proofs.GatheredLemmas.{space-gone, space-left}
use Rattle.object_store.proofs.going.GoingSpaces.turn_space.Goals as goal

pub returns-then-has-clause-each : goal.returns-then-has-clause-each
returns-then-has-clause-each c = space-gone c.args.self.now c.args.space c.args.queue.now.items (search rules)

pub returns-clause-each : goal.returns-clause-each
returns-clause-each c = space-left c.args.self.now c.args.space c.args.queue.now.items c.push_front_reserved.new.self.items (search rules) c.push_front_reserved.ensures.items
