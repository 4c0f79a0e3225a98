-- What a contract sees of an `ObjectStore`.
use Rattle.std.specs.Prelude.{ℕ, ◌≡◌, pos, List, [], Option, Some, None, if◌then◌else◌, find, map}
use Rattle.std.specs.List.{IsDistinct}
use Rattle.std.specs.Map.{lookup}
use Rattle.std.specs.Str.{bytes_eq}
use Rattle.etp_values.specs.declared.uri.StoreUri.{StoreUri}
use Rattle.etp_values.specs.SameUri.{same_uri}
use Rattle.object_store.specs.declared.records.SpaceRecord.{SpaceRecord}
use Rattle.object_store.specs.declared.records.ObjectRecord.{ObjectRecord}

-- the records by their keys, and how many operations fit without allocating
pub record Tables : Type 0 where
  pub spaces : List (List ℕ × SpaceRecord)
  pub objects : List (StoreUri × ObjectRecord)
  pub spare : ℕ

-- the dataspace of a path
abbrev pub space_in : Tables → List ℕ → Option SpaceRecord
space_in t path = lookup (bytes_eq path) t.spaces

-- the object of a URI
abbrev pub object_in : Tables → StoreUri → Option ObjectRecord
object_in t uri = lookup (same_uri uri) t.objects

-- these are the existing dataspaces, each once
pub record ListsSpaces (t : Tables) (records : List SpaceRecord) : Type 0 where
  pub found : (path : List ℕ) → find (λ r. bytes_eq path r.path) records ≡ space_in t path
  pub once : IsDistinct bytes_eq (map (λ r. r.path) records)

-- the default dataspace in its initial state
abbrev pub default_dataspace : SpaceRecord
default_dataspace = record { path = []; written = pos 0; created = pos 0; custom = [] }

-- no dataspace but the default one, and no object
pub record IsFirst (t : Tables) : Type 0 where
  pub spaces : (path : List ℕ) → space_in t path ≡ (if bytes_eq path [] then Some default_dataspace else None)
  pub objects : (uri : StoreUri) → object_in t uri ≡ None

-- all but the room is as it was
pub record SameTables (old new : Tables) : Type 0 where
  pub spaces : new.spaces ≡ old.spaces
  pub objects : new.objects ≡ old.objects
