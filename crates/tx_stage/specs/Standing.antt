-- What exists while operations are applied, for look-ups that go through a plan.
use Rattle.std.specs.Prelude.{ℕ, Bool, ◌&&◌, ◌||◌, not, Option, Some, None, is_none, if◌then◌else◌}
use Rattle.std.specs.Option.{option_map}
use Rattle.std.specs.Str.{bytes_eq}
use Rattle.etp_values.specs.declared.uri.StoreUri.{StoreUri}
use Rattle.etp_values.specs.SameUri.{same_uri}
use Rattle.array_store.specs.declared.key.ArrayKey.{ArrayKey}
use Rattle.array_store.specs.declared.op.ArrayOp.{ArrayOp}
use Rattle.array_store.specs.declared.op.ArrayOp.TheVariants as set
use Rattle.array_store.specs.declared.record.ArrayRecord.{ArrayRecord}
use Rattle.array_store.specs.Refusals.{record_refusal}
use Rattle.array_store.specs.Table.{same_key, is_of_object, is_in_space, patched_in_place}
use Rattle.object_store.specs.declared.op.ObjectOp.{ObjectOp}
use Rattle.object_store.specs.declared.op.ObjectOp.TheVariants as op
use Rattle.std.specs.Prelude.{List}
use Rattle.tx_stage.specs.Patching.{sets, takes_away}

-- whether a dataspace exists after an operation, by whether it did before
abbrev pub space_stands : List ℕ → Bool → ObjectOp → Bool
space_stands path before (op.SetSpace r) = bytes_eq path r.path || before
space_stands path before (op.DropSpace p) = not (bytes_eq path p) && before
space_stands path before (op.SetObject r) = before
space_stands path before (op.DropObject u) = before

-- whether an object does
abbrev pub object_stands : StoreUri → Bool → ObjectOp → Bool
object_stands uri before (op.SetSpace r) = before
object_stands uri before (op.DropSpace p) = not (bytes_eq uri.space p) && before
object_stands uri before (op.SetObject r) = same_uri uri r.uri || before
object_stands uri before (op.DropObject u) = not (same_uri uri u) && before

-- whether an array does
abbrev pub array_stands : ArrayKey → Bool → ArrayOp → Bool
array_stands key before o = sets key o || (not (takes_away key o) && before)

-- the array that an operation leaves as it was given, that is, not yet with its time of creation
abbrev pub array_given : ArrayKey → Option ArrayRecord → ArrayOp → Option ArrayRecord
array_given key before (set.SetArray k r) = if same_key key k && is_none (record_refusal r) then Some r else before
array_given key before (set.PatchArray k at ss cs vs) = if same_key key k then option_map (patched_in_place at ss cs vs) before else before
array_given key before (set.DropArraysOf u) = if is_of_object u key then None else before
array_given key before (set.DropArraysIn p) = if is_in_space p key then None else before
