use Rattle.std.proofs.Common.{◌≡◌, ◌++◌, map}
use Rattle.std.specs.Vec.Iter.{into_iter_items}
use Rattle.avro_bin.specs.View.{value_of}
use Rattle.etp_schema.specs.Form.{list_in}
use Rattle.message_trees.proofs.many.ListInTree.from_tree.Given as goal

abbrev pub invariant-loop-item : goal.invariant-loop-item
invariant-loop-item g l = l.items.items ++ map g.T.Typed.form.from_value (map value_of (into_iter_items l.item-iterator)) ≡ map g.T.Typed.form.from_value (list_in (value_of l.fn.tree))
