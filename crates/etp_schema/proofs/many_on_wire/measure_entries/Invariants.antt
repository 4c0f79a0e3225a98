use Rattle.std.proofs.Common.{◌≡◌, map, drop, length}
use Rattle.etp_values.specs.Entries.{on_value}
use Rattle.avro_bin.specs.Value.{entries}
use Rattle.etp_schema.specs.Measure.{counts, measured_named}
use Rattle.etp_schema.proofs.many_on_wire.measure_entries.Given as goal

abbrev pub invariant-loop-i : goal.invariant-loop-i
invariant-loop-i g l = measured_named l.measure (entries (map (on_value g.T.Typed.form.as_value) (drop l.i l.named))) ≡ measured_named (counts (length l.named)) (entries (map (on_value g.T.Typed.form.as_value) l.named))
