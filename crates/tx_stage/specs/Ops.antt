-- Operations: which keys they alter, and what they leave there.
use Rattle.std.specs.Prelude.{ℤ, Bool, true, false, ◌&&◌, ◌||◌, List, Option, Some, None, is_none}
use Rattle.std.specs.Option.{option_map}
use Rattle.etp_values.specs.declared.data.AnyArray.{AnyArray}
use Rattle.etp_values.specs.SameUri.{same_uri}
use Rattle.array_store.specs.Refusals.{record_refusal}
use Rattle.array_store.specs.Table.{patched_at}
use Rattle.tx_stage.specs.declared.key.Key.{Key}
use Rattle.tx_stage.specs.declared.key.Key.TheVariants.{Space, Object, Array}
use Rattle.tx_stage.specs.declared.op.Op.{Op}
use Rattle.tx_stage.specs.declared.op.OpWhat.{OpWhat}
use Rattle.tx_stage.specs.declared.op.OpWhat.TheVariants.{SetObject, SetArray, Patch, Gone}
use Rattle.tx_stage.specs.declared.value.Value.{Value}
use Rattle.tx_stage.specs.declared.value.Value.TheVariants as value
use Rattle.tx_stage.specs.Keys.{same_key, is_array_of}

-- ---- which keys an operation alters

-- what is done suits the key: an object's record says its key, and an array's is one that a put accepts
abbrev pub suits : Key → OpWhat → Bool
suits (Space p) (SetObject r) = false
suits (Space p) (SetArray r) = false
suits (Space p) (Patch ss cs vs) = false
suits (Space p) Gone = false
suits (Object u) (SetObject r) = same_uri u r.uri
suits (Object u) (SetArray r) = false
suits (Object u) (Patch ss cs vs) = false
suits (Object u) Gone = true
suits (Array k) (SetObject r) = false
suits (Array k) (SetArray r) = is_none (record_refusal r)
suits (Array k) (Patch ss cs vs) = true
suits (Array k) Gone = false

-- a removed object takes its arrays along
abbrev pub takes_along : Key → OpWhat → Key → Bool
takes_along own (SetObject r) key = false
takes_along own (SetArray r) key = false
takes_along own (Patch ss cs vs) key = false
takes_along own Gone key = is_array_of own key

-- what is done at a key that it suits alters that key, and what is taken along
abbrev pub alters_by : Key → OpWhat → Key → Bool
alters_by own what key = suits own what && (same_key key own || takes_along own what key)

-- whether an operation alters what a key has
abbrev pub op_alters : Op → Key → Bool
op_alters o key = alters_by o.key o.what key

-- ---- what it leaves there

-- when a value was created; one that did not exist is created now
abbrev pub made_at : ℤ → Option Value → ℤ
made_at at None = at
made_at at (Some (value.Space r)) = r.created
made_at at (Some (value.Object r)) = r.created
made_at at (Some (value.Array r)) = r.created

abbrev pub patched_value : ℤ → List ℤ → List ℤ → AnyArray → Value → Value
patched_value at ss cs vs (value.Space r) = value.Space r
patched_value at ss cs vs (value.Object r) = value.Object r
patched_value at ss cs vs (value.Array r) = value.Array (patched_at at ss cs vs r)

-- what is at a key that is altered, from the previous value
abbrev pub left_by : ℤ → OpWhat → Option Value → Option Value
left_by at (SetObject r) before = Some (value.Object (record r { written = at; created = made_at at before }))
left_by at (SetArray r) before = Some (value.Array (record r { written = at; created = made_at at before }))
left_by at (Patch ss cs vs) before = option_map (patched_value at ss cs vs) before
left_by at Gone before = None

-- what a key has after an operation that alters it, from what it had before
abbrev pub op_left : Op → Option Value → Option Value
op_left o before = left_by o.at o.what before
