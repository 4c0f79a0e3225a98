-- Data values in the schema.
use Rattle.std.proofs.Common.{inl, inr}
use Rattle.std.specs.Prelude.{◌≡◌, refl, Bool, ℕ, ℤ, List, Option, ◌⊎◌}
use Rattle.etp_values.specs.declared.bits.Bits32.{Bits32}
use Rattle.etp_values.specs.declared.bits.Bits64.{Bits64}
use Rattle.etp_values.specs.declared.data.DataValue.{DataValue}
use Rattle.etp_values.specs.declared.data.DataValue.TheVariants.{Null, Boolean, Int, Long, Float, Double, String, ArrayOfBoolean, ArrayOfNullableBoolean, ArrayOfInt, ArrayOfNullableInt, ArrayOfLong, ArrayOfNullableLong, ArrayOfFloat, ArrayOfDouble, ArrayOfString, ArrayOfBytes, Bytes, AnySparseArray}
use Rattle.etp_values.specs.declared.data.AnySubarray.{AnySubarray}
use Rattle.etp_schema.specs.Form.{Form, null_form, boolean_form, int_form, long_form, float_form, double_form, bytes_form, text_form, option_form, wrapped, Choice, union, last, ◌or◌}
use Rattle.etp_schema.specs.AnyArray.{array_of, any_subarray_form}

-- which kind a value is of, as a choice
abbrev pub data_value_parts : DataValue → (Unit {0}) ⊎ (Bool ⊎ (ℤ ⊎ (ℤ ⊎ (Bits32 ⊎ (Bits64 ⊎ ((List ℕ) ⊎ ((List Bool) ⊎ ((List (Option Bool)) ⊎ ((List ℤ) ⊎ ((List (Option ℤ)) ⊎ ((List ℤ) ⊎ ((List (Option ℤ)) ⊎ ((List Bits32) ⊎ ((List Bits64) ⊎ ((List (List ℕ)) ⊎ ((List (List ℕ)) ⊎ ((List ℕ) ⊎ (List AnySubarray))))))))))))))))))
data_value_parts Null = inl tt
data_value_parts (Boolean x) = inr (inl x)
data_value_parts (Int x) = inr (inr (inl x))
data_value_parts (Long x) = inr (inr (inr (inl x)))
data_value_parts (Float x) = inr (inr (inr (inr (inl x))))
data_value_parts (Double x) = inr (inr (inr (inr (inr (inl x)))))
data_value_parts (String x) = inr (inr (inr (inr (inr (inr (inl x))))))
data_value_parts (ArrayOfBoolean x) = inr (inr (inr (inr (inr (inr (inr (inl x)))))))
data_value_parts (ArrayOfNullableBoolean x) = inr (inr (inr (inr (inr (inr (inr (inr (inl x))))))))
data_value_parts (ArrayOfInt x) = inr (inr (inr (inr (inr (inr (inr (inr (inr (inl x)))))))))
data_value_parts (ArrayOfNullableInt x) = inr (inr (inr (inr (inr (inr (inr (inr (inr (inr (inl x))))))))))
data_value_parts (ArrayOfLong x) = inr (inr (inr (inr (inr (inr (inr (inr (inr (inr (inr (inl x)))))))))))
data_value_parts (ArrayOfNullableLong x) = inr (inr (inr (inr (inr (inr (inr (inr (inr (inr (inr (inr (inl x))))))))))))
data_value_parts (ArrayOfFloat x) = inr (inr (inr (inr (inr (inr (inr (inr (inr (inr (inr (inr (inr (inl x)))))))))))))
data_value_parts (ArrayOfDouble x) = inr (inr (inr (inr (inr (inr (inr (inr (inr (inr (inr (inr (inr (inr (inl x))))))))))))))
data_value_parts (ArrayOfString x) = inr (inr (inr (inr (inr (inr (inr (inr (inr (inr (inr (inr (inr (inr (inr (inl x)))))))))))))))
data_value_parts (ArrayOfBytes x) = inr (inr (inr (inr (inr (inr (inr (inr (inr (inr (inr (inr (inr (inr (inr (inr (inl x))))))))))))))))
data_value_parts (Bytes x) = inr (inr (inr (inr (inr (inr (inr (inr (inr (inr (inr (inr (inr (inr (inr (inr (inr (inl x)))))))))))))))))
data_value_parts (AnySparseArray x) = inr (inr (inr (inr (inr (inr (inr (inr (inr (inr (inr (inr (inr (inr (inr (inr (inr (inr x)))))))))))))))))

abbrev pub data_value_whole : (Unit {0}) ⊎ (Bool ⊎ (ℤ ⊎ (ℤ ⊎ (Bits32 ⊎ (Bits64 ⊎ ((List ℕ) ⊎ ((List Bool) ⊎ ((List (Option Bool)) ⊎ ((List ℤ) ⊎ ((List (Option ℤ)) ⊎ ((List ℤ) ⊎ ((List (Option ℤ)) ⊎ ((List Bits32) ⊎ ((List Bits64) ⊎ ((List (List ℕ)) ⊎ ((List (List ℕ)) ⊎ ((List ℕ) ⊎ (List AnySubarray)))))))))))))))))) → DataValue
data_value_whole (inl x) = Null
data_value_whole (inr (inl x)) = Boolean x
data_value_whole (inr (inr (inl x))) = Int x
data_value_whole (inr (inr (inr (inl x)))) = Long x
data_value_whole (inr (inr (inr (inr (inl x))))) = Float x
data_value_whole (inr (inr (inr (inr (inr (inl x)))))) = Double x
data_value_whole (inr (inr (inr (inr (inr (inr (inl x))))))) = String x
data_value_whole (inr (inr (inr (inr (inr (inr (inr (inl x)))))))) = ArrayOfBoolean x
data_value_whole (inr (inr (inr (inr (inr (inr (inr (inr (inl x))))))))) = ArrayOfNullableBoolean x
data_value_whole (inr (inr (inr (inr (inr (inr (inr (inr (inr (inl x)))))))))) = ArrayOfInt x
data_value_whole (inr (inr (inr (inr (inr (inr (inr (inr (inr (inr (inl x))))))))))) = ArrayOfNullableInt x
data_value_whole (inr (inr (inr (inr (inr (inr (inr (inr (inr (inr (inr (inl x)))))))))))) = ArrayOfLong x
data_value_whole (inr (inr (inr (inr (inr (inr (inr (inr (inr (inr (inr (inr (inl x))))))))))))) = ArrayOfNullableLong x
data_value_whole (inr (inr (inr (inr (inr (inr (inr (inr (inr (inr (inr (inr (inr (inl x)))))))))))))) = ArrayOfFloat x
data_value_whole (inr (inr (inr (inr (inr (inr (inr (inr (inr (inr (inr (inr (inr (inr (inl x))))))))))))))) = ArrayOfDouble x
data_value_whole (inr (inr (inr (inr (inr (inr (inr (inr (inr (inr (inr (inr (inr (inr (inr (inl x)))))))))))))))) = ArrayOfString x
data_value_whole (inr (inr (inr (inr (inr (inr (inr (inr (inr (inr (inr (inr (inr (inr (inr (inr (inl x))))))))))))))))) = ArrayOfBytes x
data_value_whole (inr (inr (inr (inr (inr (inr (inr (inr (inr (inr (inr (inr (inr (inr (inr (inr (inr (inl x)))))))))))))))))) = Bytes x
data_value_whole (inr (inr (inr (inr (inr (inr (inr (inr (inr (inr (inr (inr (inr (inr (inr (inr (inr (inr x)))))))))))))))))) = AnySparseArray x

pub data_value_again : (x : DataValue) → data_value_whole (data_value_parts x) ≡ x
data_value_again Null = refl
data_value_again (Boolean x) = refl
data_value_again (Int x) = refl
data_value_again (Long x) = refl
data_value_again (Float x) = refl
data_value_again (Double x) = refl
data_value_again (String x) = refl
data_value_again (ArrayOfBoolean x) = refl
data_value_again (ArrayOfNullableBoolean x) = refl
data_value_again (ArrayOfInt x) = refl
data_value_again (ArrayOfNullableInt x) = refl
data_value_again (ArrayOfLong x) = refl
data_value_again (ArrayOfNullableLong x) = refl
data_value_again (ArrayOfFloat x) = refl
data_value_again (ArrayOfDouble x) = refl
data_value_again (ArrayOfString x) = refl
data_value_again (ArrayOfBytes x) = refl
data_value_again (Bytes x) = refl
data_value_again (AnySparseArray x) = refl

pub data_value_same : (p : (Unit {0}) ⊎ (Bool ⊎ (ℤ ⊎ (ℤ ⊎ (Bits32 ⊎ (Bits64 ⊎ ((List ℕ) ⊎ ((List Bool) ⊎ ((List (Option Bool)) ⊎ ((List ℤ) ⊎ ((List (Option ℤ)) ⊎ ((List ℤ) ⊎ ((List (Option ℤ)) ⊎ ((List Bits32) ⊎ ((List Bits64) ⊎ ((List (List ℕ)) ⊎ ((List (List ℕ)) ⊎ ((List ℕ) ⊎ (List AnySubarray))))))))))))))))))) → data_value_parts (data_value_whole p) ≡ p
data_value_same (inl x) = refl
data_value_same (inr (inl x)) = refl
data_value_same (inr (inr (inl x))) = refl
data_value_same (inr (inr (inr (inl x)))) = refl
data_value_same (inr (inr (inr (inr (inl x))))) = refl
data_value_same (inr (inr (inr (inr (inr (inl x)))))) = refl
data_value_same (inr (inr (inr (inr (inr (inr (inl x))))))) = refl
data_value_same (inr (inr (inr (inr (inr (inr (inr (inl x)))))))) = refl
data_value_same (inr (inr (inr (inr (inr (inr (inr (inr (inl x))))))))) = refl
data_value_same (inr (inr (inr (inr (inr (inr (inr (inr (inr (inl x)))))))))) = refl
data_value_same (inr (inr (inr (inr (inr (inr (inr (inr (inr (inr (inl x))))))))))) = refl
data_value_same (inr (inr (inr (inr (inr (inr (inr (inr (inr (inr (inr (inl x)))))))))))) = refl
data_value_same (inr (inr (inr (inr (inr (inr (inr (inr (inr (inr (inr (inr (inl x))))))))))))) = refl
data_value_same (inr (inr (inr (inr (inr (inr (inr (inr (inr (inr (inr (inr (inr (inl x)))))))))))))) = refl
data_value_same (inr (inr (inr (inr (inr (inr (inr (inr (inr (inr (inr (inr (inr (inr (inl x))))))))))))))) = refl
data_value_same (inr (inr (inr (inr (inr (inr (inr (inr (inr (inr (inr (inr (inr (inr (inr (inl x)))))))))))))))) = refl
data_value_same (inr (inr (inr (inr (inr (inr (inr (inr (inr (inr (inr (inr (inr (inr (inr (inr (inl x))))))))))))))))) = refl
data_value_same (inr (inr (inr (inr (inr (inr (inr (inr (inr (inr (inr (inr (inr (inr (inr (inr (inr (inl x)))))))))))))))))) = refl
data_value_same (inr (inr (inr (inr (inr (inr (inr (inr (inr (inr (inr (inr (inr (inr (inr (inr (inr (inr x)))))))))))))))))) = refl

-- the kinds in order
abbrev pub data_value_kinds : Choice ((Unit {0}) ⊎ (Bool ⊎ (ℤ ⊎ (ℤ ⊎ (Bits32 ⊎ (Bits64 ⊎ ((List ℕ) ⊎ ((List Bool) ⊎ ((List (Option Bool)) ⊎ ((List ℤ) ⊎ ((List (Option ℤ)) ⊎ ((List ℤ) ⊎ ((List (Option ℤ)) ⊎ ((List Bits32) ⊎ ((List Bits64) ⊎ ((List (List ℕ)) ⊎ ((List (List ℕ)) ⊎ ((List ℕ) ⊎ (List AnySubarray)))))))))))))))))))
data_value_kinds = null_form or boolean_form or int_form or long_form or float_form or double_form or text_form or (array_of boolean_form) or (array_of (option_form boolean_form)) or (array_of int_form) or (array_of (option_form int_form)) or (array_of long_form) or (array_of (option_form long_form)) or (array_of float_form) or (array_of double_form) or (array_of text_form) or (array_of bytes_form) or bytes_form or last (array_of any_subarray_form)

abbrev pub data_value_form : Form DataValue
data_value_form = wrapped (union data_value_kinds data_value_parts data_value_whole data_value_again data_value_same)
