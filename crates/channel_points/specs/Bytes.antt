-- What points count towards the limits of a journal and of an answer.
use Rattle.std.specs.Prelude.{ℕ, ◌+◌, length}
use Rattle.etp_values.specs.declared.data.DataValue.{DataValue}
use Rattle.etp_values.specs.declared.data.DataValue.TheVariants.{Null, Boolean, Int, Long, Float, Double, String, ArrayOfBoolean, ArrayOfNullableBoolean, ArrayOfInt, ArrayOfNullableInt, ArrayOfLong, ArrayOfNullableLong, ArrayOfFloat, ArrayOfDouble, ArrayOfString, ArrayOfBytes, Bytes, AnySparseArray}
use Rattle.etp_values.specs.declared.point.Point.{Point}

-- a value of a channel by its size, any other value nothing
abbrev pub value_bytes : DataValue → ℕ
value_bytes Null = 0
value_bytes (Boolean x) = 1
value_bytes (Int x) = 4
value_bytes (Long x) = 8
value_bytes (Float x) = 4
value_bytes (Double x) = 8
value_bytes (String t) = length t
value_bytes (ArrayOfBoolean l) = 0
value_bytes (ArrayOfNullableBoolean l) = 0
value_bytes (ArrayOfInt l) = 0
value_bytes (ArrayOfNullableInt l) = 0
value_bytes (ArrayOfLong l) = 0
value_bytes (ArrayOfNullableLong l) = 0
value_bytes (ArrayOfFloat l) = 0
value_bytes (ArrayOfDouble l) = 0
value_bytes (ArrayOfString l) = 0
value_bytes (ArrayOfBytes l) = 0
value_bytes (Bytes b) = length b
value_bytes (AnySparseArray l) = 0

-- a point with its index
abbrev pub point_bytes : Point → ℕ
point_bytes p = 16 + value_bytes p.value
