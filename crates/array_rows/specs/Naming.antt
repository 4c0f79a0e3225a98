-- The arrays that the keys of a request name.
use Rattle.std.specs.Prelude.{ℕ, ℤ, Bool, not, ◌&&◌, List, length, nat_le, Option, if◌then◌else◌}
use Rattle.array_store.specs.declared.key.ArrayKey.{ArrayKey}
use Rattle.etp_values.specs.declared.code.ErrorCode.TheVariants.{InvalidArgument, RequestDenied}
use Rattle.etp_values.specs.declared.uri.StoreUri.{StoreUri}
use Rattle.keyed_requests.specs.Uris.{object_uri}
use Rattle.keyed_requests.specs.declared.keys.Decision.{Decision}
use Rattle.keyed_requests.specs.declared.keys.Decision.TheVariants.{Granted, Refused}
use Rattle.msg_store.specs.declared.array_records.DataArrayIdentifier.{DataArrayIdentifier}
use Rattle.msg_store.specs.declared.array_records.GetDataSubarraysType.{GetDataSubarraysType}
use Rattle.request_scope.specs.Scope.{may_use}
use Rattle.tx_stage.specs.Staging.{Transaction}
use Rattle.array_rows.specs.declared.naming.Region.{Region}

-- a path has 1 to 1,024 bytes
abbrev pub is_path : List ℕ → Bool
is_path path = nat_le 1 (length path) && nat_le (length path) 1024

-- the array of a path in an object, in a dataspace that may be touched
abbrev pub array_at : Option Transaction → List ℕ → Decision StoreUri → Decision ArrayKey
array_at stage path (Refused code) = Refused code
array_at stage path (Granted u) =
    if not (is_path path) then Refused InvalidArgument
    else if not (may_use stage u.space) then Refused RequestDenied
    else Granted (record { uri = u; path = path })

-- the array that is named: its URI, its path and its dataspace are tested in this order
abbrev pub named_array : Option Transaction → DataArrayIdentifier → Decision ArrayKey
named_array stage id = array_at stage id.path_in_resource (object_uri id.uri)

-- a region of a named array
abbrev pub region_at : List ℤ → List ℤ → Decision ArrayKey → Decision Region
region_at starts counts (Refused code) = Refused code
region_at starts counts (Granted key) = Granted (record { key = key; starts = starts; counts = counts })

abbrev pub named_region : Option Transaction → GetDataSubarraysType → Decision Region
named_region stage asked = region_at asked.starts asked.counts (named_array stage asked.uid)
