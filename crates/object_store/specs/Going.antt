-- What dropped dataspaces take out of the tables together, and what is left to do then.
use Rattle.std.specs.Prelude.{ℕ, ◌≡◌, ◌++◌, Bool, ◌||◌, List, Option, None, if◌then◌else◌, fold, length}
use Rattle.std.specs.List.{list_any}
use Rattle.std.specs.Map.{lookup}
use Rattle.std.specs.Str.{bytes_eq}
use Rattle.etp_values.specs.declared.uri.StoreUri.{StoreUri}
use Rattle.etp_values.specs.SameUri.{same_uri}
use Rattle.object_store.specs.declared.op.ObjectOp.{ObjectOp}
use Rattle.object_store.specs.declared.records.SpaceRecord.{SpaceRecord}
use Rattle.object_store.specs.declared.records.ObjectRecord.{ObjectRecord}
use Rattle.object_store.specs.Changes.{space_after, object_after}

-- the dropped dataspaces, and how many more of them fit without allocating
pub record Going : Type 0 where
  pub spaces : List (List ℕ)
  pub room : ℕ

-- the dataspace with a path is dropped
abbrev pub goes : Going → List ℕ → Bool
goes g path = list_any (bytes_eq path) g.spaces

-- this one is dropped too
abbrev pub TakesToo : Going → Going → List ℕ → Type 0
TakesToo old new too = (path : List ℕ) → goes new path ≡ (bytes_eq too path || goes old path)

-- the tables lose what is dropped, and the others keep what they had
abbrev pub LosesSpaces : Going → List (List ℕ × SpaceRecord) → List (List ℕ × SpaceRecord) → Type 0
LosesSpaces g old new = (path : List ℕ) → lookup (bytes_eq path) new ≡ (if goes g path then None else lookup (bytes_eq path) old)

abbrev pub LosesObjects : Going → List (StoreUri × ObjectRecord) → List (StoreUri × ObjectRecord) → Type 0
LosesObjects g old new = (uri : StoreUri) → lookup (same_uri uri) new ≡ (if goes g uri.space then None else lookup (same_uri uri) old)

-- once everything dropped is gone, what is left to do results in what all these operations do
pub record Gathers (g : Going) (left ops : List ObjectOp) : Type 0 where
  pub spaces : (path : List ℕ) (before : Option SpaceRecord)
      → fold (space_after path) (if goes g path then None else before) left ≡ fold (space_after path) before ops
  pub objects : (uri : StoreUri) (before : Option ObjectRecord)
      → fold (object_after uri) (if goes g uri.space then None else before) left ≡ fold (object_after uri) before ops

-- one more operation was looked at, from the end: it goes with what is dropped, or is left to be done first
pub record Turns (old new : Going) (op : ObjectOp) (before after : List ObjectOp) : Type 0 where
  pub put : List ObjectOp
  pub items : after ≡ put ++ before
  pub spaces : (path : List ℕ) (was : Option SpaceRecord)
      → fold (space_after path) (if goes new path then None else was) put ≡ (if goes old path then None else space_after path was op)
  pub objects : (uri : StoreUri) (was : Option ObjectRecord)
      → fold (object_after uri) (if goes new uri.space then None else was) put ≡ (if goes old uri.space then None else object_after uri was op)

-- on the way: what is left of the operations after an index comes before those that are still to be looked at
pub record Gathering (g : Going) (items : List ObjectOp) (n : ℕ) (ops : List ObjectOp) : Type 0 where
  pub left : List ObjectOp
  pub front : List ObjectOp
  pub split : items ≡ left ++ front
  pub count : length front ≡ n
  pub spaces : (path : List ℕ) (before : Option SpaceRecord)
      → fold (space_after path) (if goes g path then None else fold (space_after path) before front) left ≡ fold (space_after path) before ops
  pub objects : (uri : StoreUri) (before : Option ObjectRecord)
      → fold (object_after uri) (if goes g uri.space then None else fold (object_after uri) before front) left ≡ fold (object_after uri) before ops
