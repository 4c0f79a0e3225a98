use Rattle.std.proofs.Common.{sym, ◌∙◌}
use Rattle.array_store.proofs.GatheredLemmas.{set-gone, set-left}
use Rattle.array_store.proofs.going.GoingArrays.turn_set.Goals as goal

pub returns-then-has-clause-each : goal.returns-then-has-clause-each
returns-then-has-clause-each c = set-gone c.args.self.now c.args.key c.args.array c.args.queue.now.items (sym c.has.ensures ∙ c.if-has.true)

pub returns-clause-each : goal.returns-clause-each
returns-clause-each c = set-left c.args.self.now c.args.key c.args.array c.args.queue.now.items c.push_front_reserved.new.self.items (sym c.has.ensures ∙ c.if-has.false) c.push_front_reserved.ensures.items
