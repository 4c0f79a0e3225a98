-- How a store keeps its channels: their rows, and their ids by their URIs.
use Rattle.std.specs.Prelude.{ℤ, ◌≡◌, List, Some, None, if◌then◌else◌}
use Rattle.std.specs.Map.{lookup}
use Rattle.std.specs.Option.{option_or}
use Rattle.etp_values.specs.declared.uri.StoreUri.{StoreUri}
use Rattle.etp_values.specs.SameUri.{same_uri}
use Rattle.channel_store.specs.Channels.{Channel}
use Rattle.channel_store.specs.Rows.{Row}
use Rattle.channel_store.specs.Store.{id_of}
use Rattle.channel_store.specs.Sweeps.{shown_of, IsIdle}

-- under each URI is the id of its channel
abbrev pub HasIds : List (StoreUri × ℤ) → List Channel → Type 0
HasIds ids cs = (u : StoreUri) → lookup (same_uri u) ids ≡ id_of u cs

-- an id was put under a URI that had none
abbrev pub PutsId : StoreUri → ℤ → List (StoreUri × ℤ) → List (StoreUri × ℤ) → Type 0
PutsId uri id old new = (u : StoreUri) → lookup (same_uri u) new ≡ option_or (lookup (same_uri u) old) (if same_uri u uri then Some id else None)

-- what holds between two calls
pub record IsStore (ids : List (StoreUri × ℤ)) (rows : List Row) : Type 0 where
  pub idle : IsIdle rows
  pub finds : HasIds ids (shown_of rows)
