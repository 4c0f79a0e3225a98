-- What values weigh against the limits of a journal: a text or bytes 8 more than their length, a list 8 more than its
-- items together, a sparse array 8 more than its runs, a run 8 more than its slice, and a null, a truth value or a number 8.
use Rattle.std.specs.Prelude.{ℕ, ◌+◌, ◌-◌, ◌^◌, min, List, [], ◌∷◌, length}
use Rattle.etp_values.specs.declared.data.AnyArray.{AnyArray}
use Rattle.etp_values.specs.declared.data.AnyArray.TheVariants as any
use Rattle.etp_values.specs.declared.data.AnySubarray.{AnySubarray}
use Rattle.etp_values.specs.declared.data.DataValue.{DataValue}
use Rattle.etp_values.specs.declared.data.DataValue.TheVariants.{Null, Boolean, Int, Long, Float, Double, String, ArrayOfBoolean, ArrayOfNullableBoolean, ArrayOfInt, ArrayOfNullableInt, ArrayOfLong, ArrayOfNullableLong, ArrayOfFloat, ArrayOfDouble, ArrayOfString, ArrayOfBytes, Bytes, AnySparseArray}

-- a sum above the greatest 64-bit number is that number
abbrev pub capped : ℕ → ℕ
capped n = min n (2 ^ 64 - 1)

-- the weights of these items together
abbrev pub weigh : {X : Type 0} → (X → ℕ) → List X → ℕ
weigh weight [] = 0
weigh weight (x ∷ xs) = weight x + weigh weight xs

-- a null or a number
abbrev pub plain_weight : {X : Type 0} → X → ℕ
plain_weight x = 8

-- a text, or a run of bytes
abbrev pub bytes_weight : List ℕ → ℕ
bytes_weight b = 8 + length b

-- a list of these items
abbrev pub list_weight : {X : Type 0} → (X → ℕ) → List X → ℕ
list_weight weight xs = 8 + weigh weight xs

-- the elements of an array
abbrev pub array_weight : AnyArray → ℕ
array_weight (any.ArrayOfBoolean l) = list_weight plain_weight l
array_weight (any.ArrayOfInt l) = list_weight plain_weight l
array_weight (any.ArrayOfLong l) = list_weight plain_weight l
array_weight (any.ArrayOfFloat l) = list_weight plain_weight l
array_weight (any.ArrayOfDouble l) = list_weight plain_weight l
array_weight (any.ArrayOfString l) = list_weight bytes_weight l
array_weight (any.Bytes b) = bytes_weight b

-- a run of a sparse array: its start and its elements
abbrev pub subarray_weight : AnySubarray → ℕ
subarray_weight s = 8 + array_weight s.slice

-- a data value of any kind
abbrev pub value_weight : DataValue → ℕ
value_weight Null = 8
value_weight (Boolean x) = 8
value_weight (Int x) = 8
value_weight (Long x) = 8
value_weight (Float x) = 8
value_weight (Double x) = 8
value_weight (String t) = bytes_weight t
value_weight (ArrayOfBoolean l) = list_weight plain_weight l
value_weight (ArrayOfNullableBoolean l) = list_weight plain_weight l
value_weight (ArrayOfInt l) = list_weight plain_weight l
value_weight (ArrayOfNullableInt l) = list_weight plain_weight l
value_weight (ArrayOfLong l) = list_weight plain_weight l
value_weight (ArrayOfNullableLong l) = list_weight plain_weight l
value_weight (ArrayOfFloat l) = list_weight plain_weight l
value_weight (ArrayOfDouble l) = list_weight plain_weight l
value_weight (ArrayOfString l) = list_weight bytes_weight l
value_weight (ArrayOfBytes l) = list_weight bytes_weight l
value_weight (Bytes b) = bytes_weight b
value_weight (AnySparseArray l) = list_weight subarray_weight l

-- custom data: its keys' lengths and its values
abbrev pub custom_weight_of : List (List ℕ × DataValue) → ℕ
custom_weight_of custom = weigh (λ e. length e.0 + value_weight e.1) custom
