-- Each place from 18 on is read as the last kind.
use Rattle.std.proofs.Common.{◌≡◌, ◌≤◌, ◌-◌, ℕ, suc, refl, subst, arith}
use Rattle.avro_bin.specs.Value.{Value}
use Rattle.etp_values.specs.declared.data.DataValue.TheVariants.{AnySparseArray}
use Rattle.etp_schema.specs.AnyArray.{array_of, any_subarray_form}
use Rattle.etp_schema.specs.DataValue.{data_value_kinds, data_value_whole}

behind : (p : ℕ) (x : Value) → data_value_whole (data_value_kinds.from_branch (suc (suc (suc (suc (suc (suc (suc (suc (suc (suc (suc (suc (suc (suc (suc (suc (suc (suc p)))))))))))))))))) x) ≡ AnySparseArray ((array_of any_subarray_form).from_value x)
behind p x = refl

pub last_kind : (p : ℕ) (x : Value) → 18 ≤ p → data_value_whole (data_value_kinds.from_branch p x) ≡ AnySparseArray ((array_of any_subarray_form).from_value x)
last_kind p x h =
    let q : ℕ = p - 18 in
    let e : (suc (suc (suc (suc (suc (suc (suc (suc (suc (suc (suc (suc (suc (suc (suc (suc (suc (suc q)))))))))))))))))) ≡ p = omega (arith, h) in
    subst (λ (n : ℕ). data_value_whole (data_value_kinds.from_branch n x) ≡ AnySparseArray ((array_of any_subarray_form).from_value x)) e (behind q x)
