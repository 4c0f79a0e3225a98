use Rattle.std.proofs.Common.{◌≡◌, ◌++◌, map}
use Rattle.std.specs.Ordering.{nat_cmp}
use Rattle.std.specs.Cmp.Lexicographic.{slice_cmp}
use Rattle.std.specs.List.Sorted.{IsStrictlySortedBy}
use Rattle.std.specs.Map.{keys_of}
use Rattle.std.specs.Vec.Iter.{into_iter_items}
use Rattle.etp_values.specs.Entries.{on_value}
use Rattle.avro_bin.specs.View.{value_of, entry_of}
use Rattle.etp_schema.specs.Form.{named_in}
use Rattle.message_trees.proofs.many.NamedInTree.from_tree.Given as goal

abbrev pub invariant-loop-name : goal.invariant-loop-name
invariant-loop-name g l = record {
  values : l.items.items ++ map (on_value g.T.Typed.form.from_value) (map entry_of (into_iter_items l.name-iterator)) ≡ map (on_value g.T.Typed.form.from_value) (named_in (value_of l.fn.tree));
  sorted : IsStrictlySortedBy (slice_cmp nat_cmp) (keys_of l.items.items ++ keys_of (into_iter_items l.name-iterator));
}
