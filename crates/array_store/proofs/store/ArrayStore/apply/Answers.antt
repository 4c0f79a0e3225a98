use Rattle.std.proofs.Common.{◌∙◌}
use Rattle.array_store.proofs.store.ArrayStore.apply.Goals as goal

pub returns-clause-each : goal.returns-clause-each
returns-clause-each c = record { arrays = λ key. c.apply_each.ensures.each.arrays key ∙ c.take_out-left.ensures.each.arrays key }
