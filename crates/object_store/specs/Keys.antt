-- What both tables keep of their keys.
use Rattle.std.specs.Prelude.{ℕ, ◌≡◌, List, IfSome}
use Rattle.std.specs.Map.{lookup}
use Rattle.std.specs.Str.{bytes_eq}
use Rattle.etp_values.specs.declared.uri.StoreUri.{StoreUri}
use Rattle.etp_values.specs.SameUri.{same_uri}
use Rattle.object_store.specs.declared.records.SpaceRecord.{SpaceRecord}
use Rattle.object_store.specs.declared.records.ObjectRecord.{ObjectRecord}

-- each record is found by the key that it carries
pub record StandAtKeys (spaces : List (List ℕ × SpaceRecord)) (objects : List (StoreUri × ObjectRecord)) : Type 0 where
  pub spaces_say : (path : List ℕ) → IfSome (lookup (bytes_eq path) spaces) (λ r. r.path ≡ path)
  pub objects_say : (uri : StoreUri) → IfSome (lookup (same_uri uri) objects) (λ r. r.uri ≡ uri)
