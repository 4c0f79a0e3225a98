use Rattle.std.proofs.Common.{◌≡◌, suc, ◌-◌, length}
use Rattle.avro_bin.specs.Reading.{blocks_at}
use Rattle.avro_bin.specs.Along.{put_at}
use Rattle.etp_schema.specs.Form.{named_at}
use Rattle.etp_schema.proofs.many_on_wire.read_in_turn.Given as goal

abbrev pub invariant-loop : goal.invariant-loop
invariant-loop g l = blocks_at (put_at g.T.Typed.form.at) (suc (length l.fn.from.rest.now) - l.counter) (l.held.entries, l.from.left) l.from.rest.now ≡ named_at g.T.Typed.form l.fn.from.left l.fn.from.rest.now
