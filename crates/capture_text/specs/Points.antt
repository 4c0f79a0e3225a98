-- How the points of a channel are shown.
use Rattle.std.specs.Prelude.{ℕ, List, ◌++◌, codes}
use Rattle.std.specs.Fmt.{signed_decimal}
use Rattle.avro_bin.specs.Value.{Value}
use Rattle.etp_values.specs.declared.data.DataValue.{DataValue}
use Rattle.etp_values.specs.declared.point.Point.{Point}
use Rattle.etp_schema.specs.Form.{branch_in, chosen_in, fields_in, first}
use Rattle.etp_schema.specs.DataValue.{data_value_form}
use Rattle.capture_text.specs.Names.{child_at}
use Rattle.capture_text.specs.Values.{value_text}

-- the text of a union's value, without the number of its branch: the union is that of a channel's value, at its place in the schema's table
abbrev pub branch_text : Value → List ℕ
branch_text v = value_text (child_at 38 (branch_in v)) (chosen_in v)

-- the union in the record of a channel's value
abbrev pub union_of : DataValue → Value
union_of x = first (fields_in (data_value_form.as_value x))

-- the text of a channel's value on its own
unfoldable pub value_alone : DataValue → List ℕ
value_alone x = branch_text (union_of x)

-- a point's index and value
unfoldable pub point_line : Point → List ℕ
point_line p = signed_decimal p.index ++ codes " " ++ value_alone p.value ++ codes "\n"
