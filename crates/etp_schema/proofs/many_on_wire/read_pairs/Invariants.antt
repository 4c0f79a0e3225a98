use Rattle.std.proofs.Common.{◌≡◌, suc, ◌-◌, length}
use Rattle.avro_bin.specs.Reading.{blocks_at}
use Rattle.avro_bin.specs.Along.{push_at}
use Rattle.etp_schema.specs.Reading.{pair_at}
use Rattle.etp_schema.proofs.many_on_wire.read_pairs.Given as goal

abbrev pub invariant-loop : goal.invariant-loop
invariant-loop g l = blocks_at (push_at (pair_at g.T.Typed.form.at)) (suc (length l.fn.from.rest.now) - l.counter) (l.pairs.items, l.from.left) l.from.rest.now ≡ blocks_at (push_at (pair_at g.T.Typed.form.at)) (suc (length l.fn.from.rest.now)) (l.fn.pairs.items, l.fn.from.left) l.fn.from.rest.now
