use Rattle.std.proofs.Common.{◌≡◌, ◌++◌, map, drop}
use Rattle.std.specs.Io.{StartsWith}
use Rattle.std.specs.List.{AllByRecursion}
use Rattle.etp_values.specs.Entries.{on_value}
use Rattle.avro_bin.specs.Plain.{plain_named}
use Rattle.avro_bin.specs.Value.{entries}
use Rattle.avro_bin.specs.Shape.{AllNamedFit}
use Rattle.etp_schema.specs.Form.{Holds}
use Rattle.etp_schema.proofs.many_on_wire.write_entries.Given as goal

abbrev pub invariant-loop-i : goal.invariant-loop-i
invariant-loop-i g l = record {
  written : l.into.items ++ plain_named (entries (map (on_value g.T.Typed.form.as_value) (drop l.i l.named))) ≡ l.fn.into.items ++ plain_named (entries (map (on_value g.T.Typed.form.as_value) l.named));
  kept : StartsWith l.into.items l.fn.into.items;
  typed : AllByRecursion (λ e. Holds g.T.Typed.form e.1) (drop l.i l.named) → AllByRecursion (λ e. Holds g.T.Typed.form e.1) l.named;
  fit : AllNamedFit (entries (map (on_value g.T.Typed.form.as_value) (drop l.i l.named))) → AllNamedFit (entries (map (on_value g.T.Typed.form.as_value) l.named));
}
