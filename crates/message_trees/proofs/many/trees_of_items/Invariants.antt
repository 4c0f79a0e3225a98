use Rattle.std.proofs.Common.{◌≡◌, ◌++◌, map, drop}
use Rattle.std.specs.List.{AllByRecursion}
use Rattle.avro_bin.specs.View.{value_of}
use Rattle.etp_schema.specs.Form.{Holds}
use Rattle.message_trees.proofs.many.trees_of_items.Given as goal

abbrev pub invariant-loop-item : goal.invariant-loop-item
invariant-loop-item g l = record {
  values : map value_of l.trees.items ++ map g.T.Typed.form.as_value (drop l.item-index l.items) ≡ map g.T.Typed.form.as_value l.items;
  typed : AllByRecursion (Holds g.T.Typed.form) (drop l.item-index l.items) → AllByRecursion (Holds g.T.Typed.form) l.items;
}
