-- What operations leave at each key.
use Rattle.std.specs.Prelude.{◌≡◌, List, Option, Some, None, if◌then◌else◌, fold}
use Rattle.std.specs.Option.{option_map}
use Rattle.array_store.specs.declared.error.ArrayError.{ArrayError}
use Rattle.array_store.specs.declared.key.ArrayKey.{ArrayKey}
use Rattle.array_store.specs.declared.op.ArrayOp.{ArrayOp}
use Rattle.array_store.specs.declared.op.ArrayOp.TheVariants.{SetArray, PatchArray, DropArraysOf, DropArraysIn}
use Rattle.array_store.specs.declared.record.ArrayRecord.{ArrayRecord}
use Rattle.array_store.specs.Refusals.{record_refusal}
use Rattle.array_store.specs.Table.{Arrays, array_in, same_key, put_array, patched_in_place, is_of_object, is_in_space}

-- the array that a put leaves of a record, by the reason why it is refused, if any
abbrev pub put_unless : Option ArrayError → Option ArrayRecord → ArrayRecord → Option ArrayRecord
put_unless None before r = Some (put_array before r)
put_unless (Some e) before r = before

-- what an operation leaves of the array of a key
abbrev pub array_after : ArrayKey → Option ArrayRecord → ArrayOp → Option ArrayRecord
array_after key before (SetArray k r) = if same_key key k then put_unless (record_refusal r) before r else before
array_after key before (PatchArray k at ss cs vs) = if same_key key k then option_map (patched_in_place at ss cs vs) before else before
array_after key before (DropArraysOf u) = if is_of_object u key then None else before
array_after key before (DropArraysIn path) = if is_in_space path key then None else before

-- each key has what these operations left, one after the other
pub record Applies (ops : List ArrayOp) (old new : Arrays) : Type 0 where
  pub arrays : (key : ArrayKey) → array_in new key ≡ fold (array_after key) (array_in old key) ops

-- what is left to do leads from here to where the whole leads from the start
pub record Continues (rest all : List ArrayOp) (now start : Arrays) : Type 0 where
  pub arrays : (key : ArrayKey) → fold (array_after key) (array_in now key) rest ≡ fold (array_after key) (array_in start key) all
