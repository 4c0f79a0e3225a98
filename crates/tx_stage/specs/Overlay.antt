-- Operations over a state: what exists after them, and why a further one is refused.
use Rattle.std.specs.Prelude.{ℤ, Bool, true, false, not, List, Option, Some, None, is_some, if◌then◌else◌, fold, filter}
use Rattle.std.specs.Option.{option_map}
use Rattle.etp_values.specs.declared.code.ErrorCode.{ErrorCode}
use Rattle.etp_values.specs.declared.code.ErrorCode.TheVariants.{InvalidArgument, NotFound}
use Rattle.etp_values.specs.declared.data.AnyArray.{AnyArray}
use Rattle.array_store.specs.declared.record.ArrayRecord.{ArrayRecord}
use Rattle.array_store.specs.Codes.{code_of}
use Rattle.array_store.specs.Refusals.{write_refusal}
use Rattle.tx_stage.specs.declared.key.Key.{Key}
use Rattle.tx_stage.specs.declared.op.Op.{Op}
use Rattle.tx_stage.specs.declared.op.OpWhat.{OpWhat}
use Rattle.tx_stage.specs.declared.op.OpWhat.TheVariants.{SetObject, SetArray, Patch, Gone}
use Rattle.tx_stage.specs.declared.value.Value.{Value}
use Rattle.tx_stage.specs.Keys.{owner}
use Rattle.tx_stage.specs.Ops.{suits, op_alters, op_left}
use Rattle.tx_stage.specs.Values.{as_array}

-- ---- what exists after operations

-- the value at a key: what those that alter it left, one after the other, of the previous one
abbrev pub overlay : List Op → Key → Option Value → Option Value
overlay ops key base = fold (λ v o. op_left o v) base (filter (λ o. op_alters o key) ops)

-- whether something exists where an operation was applied, by whether something did before
abbrev pub leaves : OpWhat → Bool → Bool
leaves (SetObject r) before = true
leaves (SetArray r) before = true
leaves (Patch ss cs vs) before = before
leaves Gone before = false

-- whether something exists at a key, by whether something did before the operations
abbrev pub there : List Op → Key → Bool → Bool
there ops key base = fold (λ b o. leaves o.what b) base (filter (λ o. op_alters o key) ops)

-- ---- why an operation is refused

-- what has to exist: if something is set, its owner, and otherwise what is patched or removed
abbrev pub needed : Key → OpWhat → Key
needed key (SetObject r) = owner key
needed key (SetArray r) = owner key
needed key (Patch ss cs vs) = key
needed key Gone = key

-- why an array's patch does not fit it
abbrev pub patch_misfit : List ℤ → List ℤ → AnyArray → Option ArrayRecord → Option ErrorCode
patch_misfit ss cs vs None = None
patch_misfit ss cs vs (Some r) = option_map code_of (write_refusal r ss cs vs)

-- why what is done does not fit what is at its key; only a patch may not
abbrev pub misfit : OpWhat → Option Value → Option ErrorCode
misfit (SetObject r) v = None
misfit (SetArray r) v = None
misfit (Patch ss cs vs) v = patch_misfit ss cs vs (as_array v)
misfit Gone v = None

-- why an operation is refused; `state` is what each key has
abbrev pub op_refusal : (Key → Option Value) → Op → Option ErrorCode
op_refusal state o =
    if not (suits o.key o.what) then Some InvalidArgument
    else if not (is_some (state (needed o.key o.what))) then Some NotFound
    else misfit o.what (state o.key)
