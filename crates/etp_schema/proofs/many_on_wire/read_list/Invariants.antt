use Rattle.std.proofs.Common.{◌≡◌, suc, ◌-◌, length}
use Rattle.avro_bin.specs.Reading.{blocks_at}
use Rattle.avro_bin.specs.Along.{push_at}
use Rattle.etp_schema.specs.Form.{list_at}
use Rattle.etp_schema.proofs.many_on_wire.read_list.Given as goal

abbrev pub invariant-loop : goal.invariant-loop
invariant-loop g l = blocks_at (push_at g.T.Typed.form.at) (suc (length l.fn.from.rest.now) - l.counter) (l.items.items, l.from.left) l.from.rest.now ≡ list_at g.T.Typed.form l.fn.from.left l.fn.from.rest.now
