use Rattle.std.proofs.Common.{◌≡◌, ◌++◌, map, drop}
use Rattle.std.specs.Io.{StartsWith}
use Rattle.std.specs.List.{AllByRecursion}
use Rattle.avro_bin.specs.Plain.{plain_all}
use Rattle.avro_bin.specs.Value.{row}
use Rattle.avro_bin.specs.Shape.{AllFit}
use Rattle.etp_schema.specs.Form.{Holds}
use Rattle.etp_schema.proofs.many_on_wire.write_items.Given as goal

abbrev pub invariant-loop-item : goal.invariant-loop-item
invariant-loop-item g l = record {
  written : l.into.items ++ plain_all (row (map g.T.Typed.form.as_value (drop l.item-index l.items))) ≡ l.fn.into.items ++ plain_all (row (map g.T.Typed.form.as_value l.items));
  kept : StartsWith l.into.items l.fn.into.items;
  typed : AllByRecursion (Holds g.T.Typed.form) (drop l.item-index l.items) → AllByRecursion (Holds g.T.Typed.form) l.items;
  fit : AllFit (row (map g.T.Typed.form.as_value (drop l.item-index l.items))) → AllFit (row (map g.T.Typed.form.as_value l.items));
}
