-- Arrays of any kind in the schema.
use Rattle.std.proofs.Common.{inl, inr}
use Rattle.std.specs.Prelude.{◌≡◌, refl, Bool, ℕ, ℤ, List, ◌⊎◌}
use Rattle.etp_values.specs.declared.bits.Bits32.{Bits32}
use Rattle.etp_values.specs.declared.bits.Bits64.{Bits64}
use Rattle.etp_values.specs.declared.data.AnyArray.{AnyArray}
use Rattle.etp_values.specs.declared.data.AnyArray.TheVariants.{ArrayOfBoolean, ArrayOfInt, ArrayOfLong, ArrayOfFloat, ArrayOfDouble, ArrayOfString, Bytes}
use Rattle.etp_values.specs.declared.data.AnySubarray.{AnySubarray}
use Rattle.etp_schema.specs.Form.{Form, boolean_form, int_form, long_form, float_form, double_form, bytes_form, text_form, list_form, wrapped, union, last, ◌or◌, fields, ◌&◌, done}

-- an array of a kind: a record with the one field values
abbrev pub array_of : {A : Type 0} → Form A → Form (List A)
array_of f = wrapped (list_form f)

-- which kind a value is of, as a choice
abbrev pub any_array_parts : AnyArray → (List Bool) ⊎ ((List ℤ) ⊎ ((List ℤ) ⊎ ((List Bits32) ⊎ ((List Bits64) ⊎ ((List (List ℕ)) ⊎ (List ℕ))))))
any_array_parts (ArrayOfBoolean x) = inl x
any_array_parts (ArrayOfInt x) = inr (inl x)
any_array_parts (ArrayOfLong x) = inr (inr (inl x))
any_array_parts (ArrayOfFloat x) = inr (inr (inr (inl x)))
any_array_parts (ArrayOfDouble x) = inr (inr (inr (inr (inl x))))
any_array_parts (ArrayOfString x) = inr (inr (inr (inr (inr (inl x)))))
any_array_parts (Bytes x) = inr (inr (inr (inr (inr (inr x)))))

abbrev pub any_array_whole : (List Bool) ⊎ ((List ℤ) ⊎ ((List ℤ) ⊎ ((List Bits32) ⊎ ((List Bits64) ⊎ ((List (List ℕ)) ⊎ (List ℕ)))))) → AnyArray
any_array_whole (inl x) = ArrayOfBoolean x
any_array_whole (inr (inl x)) = ArrayOfInt x
any_array_whole (inr (inr (inl x))) = ArrayOfLong x
any_array_whole (inr (inr (inr (inl x)))) = ArrayOfFloat x
any_array_whole (inr (inr (inr (inr (inl x))))) = ArrayOfDouble x
any_array_whole (inr (inr (inr (inr (inr (inl x)))))) = ArrayOfString x
any_array_whole (inr (inr (inr (inr (inr (inr x)))))) = Bytes x

pub any_array_again : (x : AnyArray) → any_array_whole (any_array_parts x) ≡ x
any_array_again (ArrayOfBoolean x) = refl
any_array_again (ArrayOfInt x) = refl
any_array_again (ArrayOfLong x) = refl
any_array_again (ArrayOfFloat x) = refl
any_array_again (ArrayOfDouble x) = refl
any_array_again (ArrayOfString x) = refl
any_array_again (Bytes x) = refl

pub any_array_same : (p : (List Bool) ⊎ ((List ℤ) ⊎ ((List ℤ) ⊎ ((List Bits32) ⊎ ((List Bits64) ⊎ ((List (List ℕ)) ⊎ (List ℕ))))))) → any_array_parts (any_array_whole p) ≡ p
any_array_same (inl x) = refl
any_array_same (inr (inl x)) = refl
any_array_same (inr (inr (inl x))) = refl
any_array_same (inr (inr (inr (inl x)))) = refl
any_array_same (inr (inr (inr (inr (inl x))))) = refl
any_array_same (inr (inr (inr (inr (inr (inl x)))))) = refl
any_array_same (inr (inr (inr (inr (inr (inr x)))))) = refl

abbrev pub any_array_form : Form AnyArray
any_array_form = wrapped (union ((array_of boolean_form) or (array_of int_form) or (array_of long_form) or (array_of float_form) or (array_of double_form) or (array_of text_form) or last bytes_form) any_array_parts any_array_whole any_array_again any_array_same)

abbrev pub any_subarray_form : Form AnySubarray
any_subarray_form = fields (long_form & any_array_form & done) (λ x. (x.start, (x.slice, tt))) (λ p. record { start = p.0; slice = p.1.0 }) (λ x. refl) (λ p. refl)
