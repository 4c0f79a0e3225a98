use Rattle.std.proofs.Common.{◌≡◌, ◌++◌, map, drop}
use Rattle.std.specs.List.{AllByRecursion}
use Rattle.std.specs.Map.{keys_of}
use Rattle.etp_values.specs.Entries.{on_value}
use Rattle.avro_bin.specs.View.{entry_of}
use Rattle.etp_schema.specs.Form.{Holds}
use Rattle.message_trees.proofs.many.trees_of_named.Given as goal

abbrev pub invariant-loop-pair : goal.invariant-loop-pair
invariant-loop-pair g l = record {
  values : map entry_of l.trees.items ++ map (on_value g.T.Typed.form.as_value) (drop l.pair-index l.pair-items) ≡ map (on_value g.T.Typed.form.as_value) l.named;
  keys : keys_of l.trees.items ++ keys_of (drop l.pair-index l.pair-items) ≡ keys_of l.named;
  typed : AllByRecursion (λ e. Holds g.T.Typed.form e.1) (drop l.pair-index l.pair-items) → AllByRecursion (λ e. Holds g.T.Typed.form e.1) l.named;
}
