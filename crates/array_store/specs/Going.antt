-- What removals take out of a table together, and what is left to do then.
use Rattle.std.specs.Prelude.{ℕ, ◌≡◌, ◌++◌, Bool, ◌||◌, List, Option, None, if◌then◌else◌, fold, length}
use Rattle.std.specs.List.{list_any}
use Rattle.std.specs.Str.{bytes_eq}
use Rattle.etp_values.specs.declared.uri.StoreUri.{StoreUri}
use Rattle.etp_values.specs.SameUri.{same_uri}
use Rattle.array_store.specs.declared.key.ArrayKey.{ArrayKey}
use Rattle.array_store.specs.declared.op.ArrayOp.{ArrayOp}
use Rattle.array_store.specs.declared.record.ArrayRecord.{ArrayRecord}
use Rattle.array_store.specs.Operations.{array_after}

-- the objects and the dataspaces whose arrays are removed, and how many more of each fit without allocating
pub record Going : Type 0 where
  pub objects : List StoreUri
  pub spaces : List (List ℕ)
  pub room : ℕ

-- the array of a key is removed
abbrev pub goes : Going → ArrayKey → Bool
goes g key = list_any (same_uri key.uri) g.objects || list_any (bytes_eq key.uri.space) g.spaces

-- one more removal takes out the arrays of these keys too
abbrev pub TakesToo : Going → Going → (ArrayKey → Bool) → Type 0
TakesToo old new too = (key : ArrayKey) → goes new key ≡ (too key || goes old key)

-- once everything dropped is gone, what is left to do results in what all these operations do
abbrev pub Gathers : Going → List ArrayOp → List ArrayOp → Type 0
Gathers g left ops = (key : ArrayKey) (before : Option ArrayRecord)
    → fold (array_after key) (if goes g key then None else before) left ≡ fold (array_after key) before ops

-- one more operation was looked at, from the end: it goes with what is dropped, or is left to be done first
pub record Turns (old new : Going) (op : ArrayOp) (before after : List ArrayOp) : Type 0 where
  pub put : List ArrayOp
  pub items : after ≡ put ++ before
  pub turns : (key : ArrayKey) (was : Option ArrayRecord)
      → fold (array_after key) (if goes new key then None else was) put ≡ (if goes old key then None else array_after key was op)

-- on the way: what is left of the operations after an index comes before those that are still to be looked at
pub record Gathering (g : Going) (items : List ArrayOp) (n : ℕ) (ops : List ArrayOp) : Type 0 where
  pub left : List ArrayOp
  pub front : List ArrayOp
  pub split : items ≡ left ++ front
  pub count : length front ≡ n
  pub gathers : (key : ArrayKey) (before : Option ArrayRecord)
      → fold (array_after key) (if goes g key then None else fold (array_after key) before front) left ≡ fold (array_after key) before ops
