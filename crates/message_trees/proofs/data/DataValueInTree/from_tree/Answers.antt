use Rattle.std.proofs.Common.{◌≤◌, ◌∙◌, ap, sym, arith}
use Rattle.avro_bin.specs.View.{value_of}
use Rattle.etp_values.specs.declared.data.DataValue.TheVariants.{AnySparseArray}
use Rattle.etp_schema.specs.Form.{branch_in, chosen_in, fields_in, first}
use Rattle.etp_schema.specs.AnyArray.{array_of, any_subarray_form}
use Rattle.message_trees.proofs.LastKindLemmas.{last_kind}
use Rattle.message_trees.proofs.data.DataValueInTree.from_tree.Goals as goal

pub returns-in_ok-unwrapped-in_default : goal.returns-in_ok-unwrapped-in_default
returns-in_ok-unwrapped-in_default c =
    let place = branch_in (first (fields_in (value_of c.args.tree))) in
    let far : 18 ≤ place = omega (arith, c.in_default, c.branch_of-place.ensures.place) in
    ap AnySparseArray (c.in_ok-unwrapped-in_default.ensures ∙ ap (array_of any_subarray_form).from_value c.branch_of-place.ensures.value) ∙ sym (last_kind place (chosen_in (first (fields_in (value_of c.args.tree)))) far)
