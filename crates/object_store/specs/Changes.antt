-- What operations leave at each key.
use Rattle.std.specs.Prelude.{ℕ, List, ◌≡◌, if◌then◌else◌, fold, Option, Some, None}
use Rattle.std.specs.Map.{lookup}
use Rattle.std.specs.Str.{bytes_eq}
use Rattle.etp_values.specs.declared.uri.StoreUri.{StoreUri}
use Rattle.etp_values.specs.SameUri.{same_uri}
use Rattle.object_store.specs.declared.records.SpaceRecord.{SpaceRecord}
use Rattle.object_store.specs.declared.records.ObjectRecord.{ObjectRecord}
use Rattle.object_store.specs.declared.op.ObjectOp.{ObjectOp}
use Rattle.object_store.specs.declared.op.ObjectOp.TheVariants.{SetSpace, DropSpace, SetObject, DropObject}
use Rattle.object_store.specs.Tables.{Tables, space_in, object_in}

-- the dataspace that a put leaves: it was created when the previous one was, or now if there was none
abbrev pub space_made : Option SpaceRecord → SpaceRecord → SpaceRecord
space_made None r = record r { created = r.written }
space_made (Some before) r = record r { created = before.created }

-- the object that a put leaves: it was created when the previous one was, or now if there was none
abbrev pub object_made : Option ObjectRecord → ObjectRecord → ObjectRecord
object_made None r = record r { created = r.written }
object_made (Some before) r = record r { created = before.created }

-- what an operation leaves of the dataspace with a path
abbrev pub space_after : List ℕ → Option SpaceRecord → ObjectOp → Option SpaceRecord
space_after path before (SetSpace r) = if bytes_eq path r.path then Some (space_made before r) else before
space_after path before (DropSpace p) = if bytes_eq path p then None else before
space_after path before (SetObject r) = before
space_after path before (DropObject u) = before

-- what an operation leaves of the object with a URI; a dropped dataspace takes its objects with it
abbrev pub object_after : StoreUri → Option ObjectRecord → ObjectOp → Option ObjectRecord
object_after uri before (SetSpace r) = before
object_after uri before (DropSpace p) = if bytes_eq uri.space p then None else before
object_after uri before (SetObject r) = if same_uri uri r.uri then Some (object_made before r) else before
object_after uri before (DropObject u) = if same_uri uri u then None else before

-- ---- one table

-- the table of dataspaces after a put: at the path the record as it is put, elsewhere what was there
abbrev pub PutsSpace : List ℕ → SpaceRecord → List (List ℕ × SpaceRecord) → List (List ℕ × SpaceRecord) → Type 0
PutsSpace path r old new = (q : List ℕ)
    → lookup (bytes_eq q) new
    ≡ (if bytes_eq q path then Some (space_made (lookup (bytes_eq q) old) r) else lookup (bytes_eq q) old)

-- and after a drop
abbrev pub DropsSpace : List ℕ → List (List ℕ × SpaceRecord) → List (List ℕ × SpaceRecord) → Type 0
DropsSpace path old new = (q : List ℕ)
    → lookup (bytes_eq q) new ≡ (if bytes_eq q path then None else lookup (bytes_eq q) old)

-- the table of objects after a put, after one object is dropped, and after those of a dataspace are
abbrev pub PutsObject : StoreUri → ObjectRecord → List (StoreUri × ObjectRecord) → List (StoreUri × ObjectRecord) → Type 0
PutsObject uri r old new = (q : StoreUri)
    → lookup (same_uri q) new
    ≡ (if same_uri q uri then Some (object_made (lookup (same_uri q) old) r) else lookup (same_uri q) old)

abbrev pub DropsObject : StoreUri → List (StoreUri × ObjectRecord) → List (StoreUri × ObjectRecord) → Type 0
DropsObject uri old new = (q : StoreUri)
    → lookup (same_uri q) new ≡ (if same_uri q uri then None else lookup (same_uri q) old)

abbrev pub DropsObjectsIn : List ℕ → List (StoreUri × ObjectRecord) → List (StoreUri × ObjectRecord) → Type 0
DropsObjectsIn path old new = (q : StoreUri)
    → lookup (same_uri q) new ≡ (if bytes_eq q.space path then None else lookup (same_uri q) old)

-- ---- both

-- each key has what these operations left, one after the other
pub record Applies (ops : List ObjectOp) (old new : Tables) : Type 0 where
  pub spaces : (path : List ℕ) → space_in new path ≡ fold (space_after path) (space_in old path) ops
  pub objects : (uri : StoreUri) → object_in new uri ≡ fold (object_after uri) (object_in old uri) ops

-- what is left to do leads from here to where the whole leads from the start
pub record Continues (rest all : List ObjectOp) (now start : Tables) : Type 0 where
  pub spaces : (path : List ℕ) → fold (space_after path) (space_in now path) rest ≡ fold (space_after path) (space_in start path) all
  pub objects : (uri : StoreUri) → fold (object_after uri) (object_in now uri) rest ≡ fold (object_after uri) (object_in start uri) all
