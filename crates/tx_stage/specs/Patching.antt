-- Patches of an array that a plan sets, in the operation that sets it.
use Rattle.std.specs.Prelude.{ℕ, zero, suc, ℤ, Bool, true, false, ◌≡◌, ◌&&◌, ◌||◌, List, [], ◌∷◌, Option, Some, None, is_none, is_some}
use Rattle.std.specs.List.{list_any}
use Rattle.etp_values.specs.declared.data.AnyArray.{AnyArray}
use Rattle.array_store.specs.declared.error.ArrayError.{ArrayError}
use Rattle.array_store.specs.declared.key.ArrayKey.{ArrayKey}
use Rattle.array_store.specs.declared.op.ArrayOp.{ArrayOp}
use Rattle.array_store.specs.declared.op.ArrayOp.TheVariants as set
use Rattle.array_store.specs.declared.record.ArrayRecord.{ArrayRecord}
use Rattle.array_store.specs.Arrays.{has_numbers}
use Rattle.array_store.specs.Operations.{array_after}
use Rattle.array_store.specs.Refusals.{record_refusal, write_refusal}
use Rattle.array_store.specs.Table.{same_key, is_of_object, is_in_space, patched_at}

-- an operation sets the array of a key
abbrev pub sets : ArrayKey → ArrayOp → Bool
sets key (set.SetArray k r) = same_key key k && is_none (record_refusal r)
sets key (set.PatchArray k at ss cs vs) = false
sets key (set.DropArraysOf u) = false
sets key (set.DropArraysIn p) = false

-- an operation takes the array of a key away
abbrev pub takes_away : ArrayKey → ArrayOp → Bool
takes_away key (set.SetArray k r) = false
takes_away key (set.PatchArray k at ss cs vs) = false
takes_away key (set.DropArraysOf u) = is_of_object u key
takes_away key (set.DropArraysIn p) = is_in_space p key

-- an operation patches the array of a key, if there is one
abbrev pub patches : ArrayKey → ArrayOp → Bool
patches key (set.SetArray k r) = false
patches key (set.PatchArray k at ss cs vs) = same_key key k
patches key (set.DropArraysOf u) = false
patches key (set.DropArraysIn p) = false

-- one of them
abbrev pub concerns : ArrayKey → ArrayOp → Bool
concerns key o = sets key o || (takes_away key o || patches key o)

-- the array that an operation sets
abbrev pub array_set : ArrayOp → Option ArrayRecord
array_set (set.SetArray k r) = Some r
array_set (set.PatchArray k at ss cs vs) = None
array_set (set.DropArraysOf u) = None
array_set (set.DropArraysIn p) = None

-- the operation at a place sets the array of a key, and no later one concerns it
abbrev pub SetsLater : ArrayKey → List ArrayOp → ℕ → Type 0
SetsLater key [] place = ⊥
SetsLater key (o ∷ os) zero = (sets key o ≡ true) × (list_any (concerns key) os ≡ false)
SetsLater key (o ∷ os) (suc place) = SetsLater key os place

-- the same, and there is an array before it, if this is the key's array before all of them
abbrev pub SetsOver : ArrayKey → Option ArrayRecord → List ArrayOp → ℕ → Type 0
SetsOver key before [] place = ⊥
SetsOver key before (o ∷ os) zero = (is_some before ≡ true) × (sets key o ≡ true) × (list_any (concerns key) os ≡ false)
SetsOver key before (o ∷ os) (suc place) = SetsOver key (array_after key before o) os place

-- the array of a key before all of these operations has numbers, and none of them concerns it
abbrev pub IsUntouched : ArrayKey → Option ArrayRecord → List ArrayOp → ArrayRecord → Type 0
IsUntouched key before os r = (before ≡ Some r) × (list_any (concerns key) os ≡ false) × (has_numbers r.values ≡ true)

-- an operation whose array is patched
abbrev pub patched_op : ℤ → List ℤ → List ℤ → AnyArray → ArrayOp → ArrayOp
patched_op at ss cs vs (set.SetArray k r) = set.SetArray k (patched_at at ss cs vs r)
patched_op at ss cs vs (set.PatchArray k when starts counts values) = set.PatchArray k when starts counts values
patched_op at ss cs vs (set.DropArraysOf u) = set.DropArraysOf u
patched_op at ss cs vs (set.DropArraysIn p) = set.DropArraysIn p

-- why the array that an operation sets refuses a patch
abbrev pub set_refusal : List ℤ → List ℤ → AnyArray → ArrayOp → Option ArrayError
set_refusal ss cs vs (set.SetArray k r) = write_refusal r ss cs vs
set_refusal ss cs vs (set.PatchArray k when starts counts values) = None
set_refusal ss cs vs (set.DropArraysOf u) = None
set_refusal ss cs vs (set.DropArraysIn p) = None

-- what an operation sets is an array
abbrev pub is_sound : ArrayOp → Bool
is_sound (set.SetArray k r) = is_none (record_refusal r)
is_sound (set.PatchArray k at ss cs vs) = true
is_sound (set.DropArraysOf u) = true
is_sound (set.DropArraysIn p) = true
