-- The state of a store's dataspaces, objects and arrays, and that state with a plan applied.
use Rattle.std.specs.Prelude.{ℕ, ℤ, ◌≡◌, List, [], Option, Some, None, if◌then◌else◌, fold}
use Rattle.std.specs.Option.{option_map}
use Rattle.std.specs.Str.{bytes_eq}
use Rattle.etp_values.specs.declared.code.ErrorCode.{ErrorCode}
use Rattle.etp_values.specs.declared.data.DataValue.{DataValue}
use Rattle.array_store.specs.declared.op.ArrayOp.{ArrayOp}
use Rattle.array_store.specs.Operations.{array_after}
use Rattle.array_store.specs.Table.{Arrays, array_in}
use Rattle.object_store.specs.declared.op.ObjectOp.{ObjectOp}
use Rattle.object_store.specs.Changes.{space_after, object_after}
use Rattle.object_store.specs.Tables.{Tables, space_in, object_in, default_dataspace}
use Rattle.tx_stage.specs.declared.contents.Contents.{Contents}
use Rattle.tx_stage.specs.declared.key.Key.{Key}
use Rattle.tx_stage.specs.declared.key.Key.TheVariants.{Space, Object, Array}
use Rattle.tx_stage.specs.declared.op.OpWhat.{OpWhat}
use Rattle.tx_stage.specs.declared.plan.Plan.{Plan}
use Rattle.tx_stage.specs.declared.value.Value.{Value}
use Rattle.tx_stage.specs.declared.value.Value.TheVariants as value
use Rattle.tx_stage.specs.Keys.{same_key, space_of}
use Rattle.tx_stage.specs.Ops.{alters_by, left_by, made_at}

-- ---- states

-- what each key has in these tables, after these operations on both
abbrev pub state_by : Tables → Arrays → List ObjectOp → List ArrayOp → Key → Option Value
state_by tables arrays ops sets (Space q) = option_map value.Space (fold (space_after q) (space_in tables q) ops)
state_by tables arrays ops sets (Object u) = option_map value.Object (fold (object_after u) (object_in tables u) ops)
state_by tables arrays ops sets (Array k) = option_map value.Array (fold (array_after k) (array_in arrays k) sets)

-- what each key has
abbrev pub state_in : Contents → Key → Option Value
state_in t = state_by t.objects t.arrays [] []

-- what each key will have once a plan is applied
abbrev pub state_now : Contents → Plan → Key → Option Value
state_now t p = state_by t.objects t.arrays p.objects.items p.arrays.items

-- what each key has initially: the default dataspace exists
abbrev pub first : Key → Option Value
first (Space q) = if bytes_eq q [] then Some (value.Space default_dataspace) else None
first (Object u) = None
first (Array k) = None

-- ---- what is added to a plan

-- a plan replaces another one and also does this at a key
abbrev pub Advances : Contents → Plan → Plan → Key → OpWhat → ℤ → Type 0
Advances t old new own what at = (key : Key)
    → state_now t new key ≡ (if alters_by own what key then left_by at what (state_now t old key) else state_now t old key)

-- a dataspace is put as well
abbrev pub PutsSpace : Contents → Plan → Plan → List ℕ → List (List ℕ × DataValue) → ℤ → Type 0
PutsSpace t old new path custom at = (key : Key)
    → state_now t new key
    ≡ (if same_key key (Space path) then Some (value.Space (record { path = path; written = at; created = made_at at (state_now t old key); custom = custom }))
    else state_now t old key)

-- a dataspace is dropped as well, with everything in it
abbrev pub DropsSpace : Contents → Plan → Plan → List ℕ → Type 0
DropsSpace t old new path = (key : Key) → state_now t new key ≡ (if bytes_eq (space_of key) path then None else state_now t old key)

-- an operation that was not refused was added to the plan, and a refused one was not
abbrev pub PlansUnless : Option ErrorCode → Contents → Plan → Plan → Key → OpWhat → ℤ → Type 0
PlansUnless None t old new own what at = Advances t old new own what at
PlansUnless (Some code) t old new own what at = new ≡ old
