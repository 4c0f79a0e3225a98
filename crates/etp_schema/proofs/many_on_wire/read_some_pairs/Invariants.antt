use Rattle.std.proofs.Common.{◌≡◌, ◌-◌}
use Rattle.avro_bin.specs.Reading.{items_at}
use Rattle.avro_bin.specs.Along.{push_at}
use Rattle.etp_schema.specs.Reading.{pair_at}
use Rattle.etp_schema.proofs.many_on_wire.read_some_pairs.Given as goal

abbrev pub invariant-loop : goal.invariant-loop
invariant-loop g l = items_at (push_at (pair_at g.T.Typed.form.at)) (l.count - l.counter) (l.pairs.items, l.from.left) l.from.rest.now ≡ items_at (push_at (pair_at g.T.Typed.form.at)) l.count (l.fn.pairs.items, l.fn.from.left) l.fn.from.rest.now
