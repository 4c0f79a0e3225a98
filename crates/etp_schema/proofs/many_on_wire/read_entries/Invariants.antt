use Rattle.std.proofs.Common.{◌≡◌, ◌-◌}
use Rattle.avro_bin.specs.Reading.{items_at}
use Rattle.avro_bin.specs.Along.{put_at}
use Rattle.etp_schema.proofs.many_on_wire.read_entries.Given as goal

abbrev pub invariant-loop : goal.invariant-loop
invariant-loop g l = items_at (put_at g.T.Typed.form.at) (l.count - l.counter) (l.held.entries, l.from.left) l.from.rest.now ≡ items_at (put_at g.T.Typed.form.at) l.count (l.fn.held.entries, l.fn.from.left) l.fn.from.rest.now
