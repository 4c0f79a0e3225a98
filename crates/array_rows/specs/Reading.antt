-- GetDataArrays, GetDataSubarrays and GetDataArrayMetadata: what is looked at, and what comes of it.
use Rattle.std.specs.Prelude.{ℕ, ℤ, Bool, true, false, List, Option, Some, None, get_or, slice_get}
use Rattle.std.specs.Option.{option_map}
use Rattle.array_store.specs.Arrays.{kind, size_of, slice_of}
use Rattle.array_store.specs.Codes.{code_of}
use Rattle.array_store.specs.Refusals.{slice_refusal}
use Rattle.array_store.specs.Shape.{sizes}
use Rattle.array_store.specs.declared.key.ArrayKey.{ArrayKey}
use Rattle.array_store.specs.declared.record.ArrayRecord.{ArrayRecord}
use Rattle.etp_values.specs.declared.code.ErrorCode.TheVariants.{LimitExceeded, NotFound, RequestDenied}
use Rattle.etp_values.specs.declared.data.AnyArray.{AnyArray}
use Rattle.keyed_requests.specs.Keyed.{granted_unless}
use Rattle.keyed_requests.specs.declared.keys.Decision.{Decision}
use Rattle.keyed_requests.specs.declared.keys.Decision.TheVariants.{Granted, Refused}
use Rattle.msg_store.specs.ArrayRecords.{data_array_form, data_array_metadata_form}
use Rattle.msg_store.specs.ArrayTypes.{array_types, logical_types}
use Rattle.msg_store.specs.declared.array_records.DataArray.{DataArray}
use Rattle.msg_store.specs.declared.array_records.DataArrayMetadata.{DataArrayMetadata}
use Rattle.msg_store.specs.declared.array_types.AnyArrayType.TheVariants as kinds
use Rattle.msg_store.specs.declared.array_types.AnyLogicalArrayType.TheVariants as meanings
use Rattle.msg_store.specs.declared.data_array_messages.DataArrayMessage.{DataArrayMessage}
use Rattle.msg_store.specs.declared.data_array_messages.DataArrayMessage.TheVariants as message
use Rattle.request_scope.specs.Scope.{array_over, paying, pays}
use Rattle.request_scope.specs.declared.within.Scope.{Scope}
use Rattle.tx_stage.specs.Staging.{Transaction}
use Rattle.tx_stage.specs.declared.look.Looked.{Looked}
use Rattle.tx_stage.specs.declared.look.Looked.TheVariants as look
use Rattle.tx_stage.specs.declared.look.Want.{Want}
use Rattle.tx_stage.specs.declared.look.Want.TheVariants as want
use Rattle.array_rows.specs.Sizes.{fitting}
use Rattle.array_rows.specs.declared.naming.Region.{Region}

-- ---- what is looked at: the elements of a region are cut out by the store, except in a transaction

abbrev pub slice_want : Region → Want
slice_want r = want.Slice r.key r.starts r.counts

-- ---- an array that was looked at

-- an array that exists
abbrev pub array_there : Option ArrayRecord → Decision ArrayRecord
array_there None = Refused NotFound
array_there (Some r) = Granted r

-- the array of a key, by what was seen there. The store sees nothing else at an array's key
abbrev pub array_seen : Option Transaction → ArrayKey → Option Looked → Decision ArrayRecord
array_seen stage key (Some (look.Array r)) = array_there (array_over stage key (Some r))
array_seen stage key (Some look.Missing) = array_there (array_over stage key None)
array_seen stage key (Some (look.Refused code)) = Refused code
array_seen stage key _ = Refused RequestDenied

-- what is made of an array whose elements were counted
abbrev pub if_counted : {R : Type 0} → Bool → Decision R → Decision R
if_counted false d = Refused LimitExceeded
if_counted true d = d

-- an array whose elements are counted, unless it is refused
abbrev pub counted : {R : Type 0} → (ArrayRecord → Decision R) → Scope → Decision ArrayRecord → Scope × Decision R
counted make s (Refused code) = (s, Refused code)
counted make s (Granted r) = (paying s (size_of r.values), if_counted (pays s (size_of r.values)) (make r))

-- ---- GetDataArrays

abbrev pub arrays_response : List (List ℕ × DataArray) → DataArrayMessage
arrays_response arrays = message.GetDataArraysResponse (record { data_arrays = arrays })

-- an array as it is sent
abbrev pub data_array : List ℤ → AnyArray → DataArray
data_array dimensions values = record { dimensions = dimensions; payload = values }

abbrev pub got : ℕ → Scope → List ℕ → Decision ArrayRecord → Scope × Decision DataArray
got limit s key seen = counted (λ r. fitting data_array_form limit key (data_array r.dims r.values)) s seen

abbrev pub get_one : ℕ → Scope → List ℕ → ArrayKey → List Looked → Scope × Decision DataArray
get_one limit s key k found = got limit s key (array_seen s.stage k (slice_get found 0))

-- ---- GetDataSubarrays

abbrev pub slices_response : List (List ℕ × DataArray) → DataArrayMessage
slices_response arrays = message.GetDataSubarraysResponse (record { data_subarrays = arrays })

-- the elements of a region of these counts, as the store saw them
abbrev pub slice_seen : ℕ → List ℕ → List ℤ → Option Looked → Decision DataArray
slice_seen limit key counts (Some (look.Slice values)) = fitting data_array_form limit key (data_array counts values)
slice_seen limit key counts (Some look.Missing) = Refused NotFound
slice_seen limit key counts (Some (look.Refused code)) = Refused code
slice_seen limit key counts _ = Refused RequestDenied

abbrev pub slice_one : ℕ → Scope → List ℕ → List ℤ → List Looked → Scope × Decision DataArray
slice_one limit s key counts found = (s, slice_seen limit key counts (slice_get found 0))

-- the elements of a region of an array that was looked at as a whole
abbrev pub cut_out : Region → ArrayRecord → Decision AnyArray
cut_out g r = granted_unless (option_map code_of (slice_refusal r g.starts g.counts)) (slice_of (sizes r.dims) (sizes g.starts) (sizes g.counts) r.values)

-- the array is counted as a whole, except for a region that it doesn't have
abbrev pub cut_counted : ℕ → Scope → List ℕ → List ℤ → AnyArray → Decision AnyArray → Scope × Decision DataArray
cut_counted limit s key counts whole (Refused code) = (s, Refused code)
cut_counted limit s key counts whole (Granted values) = (paying s (size_of whole), if_counted (pays s (size_of whole)) (fitting data_array_form limit key (data_array counts values)))

abbrev pub cut_seen : ℕ → Scope → List ℕ → Region → Decision ArrayRecord → Scope × Decision DataArray
cut_seen limit s key g (Refused code) = (s, Refused code)
cut_seen limit s key g (Granted r) = cut_counted limit s key g.counts r.values (cut_out g r)

abbrev pub staged_slice : ℕ → Scope → List ℕ → Region → List Looked → Scope × Decision DataArray
staged_slice limit s key g found = cut_seen limit s key g (array_seen s.stage g.key (slice_get found 0))

-- ---- GetDataArrayMetadata

abbrev pub metadata_response : List (List ℕ × DataArrayMetadata) → DataArrayMessage
metadata_response metadata = message.GetDataArrayMetadataResponse (record { array_metadata = metadata })

-- what is known about an array apart from its elements
abbrev pub metadata_of : ArrayRecord → DataArrayMetadata
metadata_of r = record {
  dimensions = r.dims;
  preferred_subarray_dimensions = r.preferred;
  transport_array_type = get_or array_types (kind r.values) kinds.Bytes;
  logical_array_type = get_or logical_types r.logical meanings.ArrayOfCustom;
  store_last_write = r.written;
  store_created = r.created;
  custom_data = r.custom;
}

-- as the store saw it
abbrev pub shape_seen : ℕ → List ℕ → Option Looked → Decision DataArrayMetadata
shape_seen limit key (Some (look.Shape dims preferred branch logical custom written created)) = fitting data_array_metadata_form limit key (record {
  dimensions = dims;
  preferred_subarray_dimensions = preferred;
  transport_array_type = get_or array_types branch kinds.Bytes;
  logical_array_type = get_or logical_types logical meanings.ArrayOfCustom;
  store_last_write = written;
  store_created = created;
  custom_data = custom;
})
shape_seen limit key (Some look.Missing) = Refused NotFound
shape_seen limit key (Some (look.Refused code)) = Refused code
shape_seen limit key _ = Refused RequestDenied

abbrev pub shape_one : ℕ → Scope → List ℕ → Unit {0} → List Looked → Scope × Decision DataArrayMetadata
shape_one limit s key kept found = (s, shape_seen limit key (slice_get found 0))

abbrev pub described : ℕ → Scope → List ℕ → Decision ArrayRecord → Scope × Decision DataArrayMetadata
described limit s key seen = counted (λ r. fitting data_array_metadata_form limit key (metadata_of r)) s seen

abbrev pub staged_shape : ℕ → Scope → List ℕ → ArrayKey → List Looked → Scope × Decision DataArrayMetadata
staged_shape limit s key k found = described limit s key (array_seen s.stage k (slice_get found 0))
