use Rattle.std.proofs.Common.{None, cond, sym, ap}
use Rattle.array_store.specs.Table.{array_among}
use Rattle.array_store.proofs.table.drop_going.Goals as goal

pub returns-then-is_empty-clause-each : goal.returns-then-is_empty-clause-each
returns-then-is_empty-clause-each c = λ q. ap (λ b. cond b None (array_among c.args.arrays.now.entries q)) (sym (c.is_empty.ensures c.if-is_empty.true q))
