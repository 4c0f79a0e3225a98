-- PutDataArrays, PutDataSubarrays and PutUninitializedDataArrays: what is tested about their keys, and what comes of them.
use Rattle.std.specs.Prelude.{ℕ, ℤ, pos, ◌+◌, ◌*◌, ◌==◌, Bool, true, false, not, ◌||◌, List, [], ◌∷◌, Option, Some, None, Result, Ok, Err, length, nat_le, if◌then◌else◌, replicate, slice_get}
use Rattle.std.specs.Option.{option_map}
use Rattle.array_store.specs.Arrays.{size_of}
use Rattle.array_store.specs.Codes.{code_of}
use Rattle.array_store.specs.Refusals.{dims_of, record_refusal, write_refusal}
use Rattle.array_store.specs.declared.error.ArrayError.{ArrayError}
use Rattle.array_store.specs.declared.key.ArrayKey.{ArrayKey}
use Rattle.array_store.specs.declared.record.ArrayRecord.{ArrayRecord}
use Rattle.etp_values.specs.declared.code.ErrorCode.{ErrorCode}
use Rattle.etp_values.specs.declared.code.ErrorCode.TheVariants.{InvalidArgument, LimitExceeded, SizeExceeded}
use Rattle.etp_values.specs.declared.data.AnyArray.{AnyArray}
use Rattle.etp_values.specs.declared.data.AnyArray.TheVariants as any
use Rattle.etp_values.specs.declared.data.DataValue.{DataValue}
use Rattle.keyed_requests.specs.Keyed.{granted_unless}
use Rattle.keyed_requests.specs.declared.keys.Decision.{Decision}
use Rattle.keyed_requests.specs.declared.keys.Decision.TheVariants.{Granted, Refused}
use Rattle.msg_store.specs.ArrayTypes.{logical_type_place}
use Rattle.msg_store.specs.declared.array_records.DataArray.{DataArray}
use Rattle.msg_store.specs.declared.array_records.DataArrayMetadata.{DataArrayMetadata}
use Rattle.msg_store.specs.declared.array_records.PutDataArraysType.{PutDataArraysType}
use Rattle.msg_store.specs.declared.array_records.PutDataSubarraysType.{PutDataSubarraysType}
use Rattle.msg_store.specs.declared.array_records.PutUninitializedDataArrayType.{PutUninitializedDataArrayType}
use Rattle.msg_store.specs.declared.array_types.AnyArrayType.{AnyArrayType}
use Rattle.msg_store.specs.declared.array_types.AnyArrayType.TheVariants as kinds
use Rattle.msg_store.specs.declared.data_array_messages.DataArrayMessage.{DataArrayMessage}
use Rattle.msg_store.specs.declared.data_array_messages.DataArrayMessage.TheVariants as message
use Rattle.request_scope.specs.Finding.{found_refusal, putting}
use Rattle.request_scope.specs.Scope.{paying, pays, stage_refusal, staging}
use Rattle.request_scope.specs.declared.within.Scope.{Scope}
use Rattle.store_machine.specs.declared.call.Verdict.{Verdict}
use Rattle.store_machine.specs.declared.call.Verdict.TheVariants as verdict
use Rattle.tx_stage.specs.Staging.{Transaction}
use Rattle.tx_stage.specs.declared.key.Key.TheVariants.{Object, Array}
use Rattle.tx_stage.specs.declared.look.Looked.{Looked}
use Rattle.tx_stage.specs.declared.look.Want.{Want}
use Rattle.tx_stage.specs.declared.look.Want.TheVariants as want
use Rattle.tx_stage.specs.declared.op.Op.{Op}
use Rattle.tx_stage.specs.declared.op.OpWhat.TheVariants.{SetArray, Patch}
use Rattle.array_rows.specs.Naming.{named_array}
use Rattle.array_rows.specs.Reading.{array_seen}
use Rattle.array_rows.specs.Sizes.{is_custom_large}
use Rattle.array_rows.specs.declared.changing.ArrayChange.{ArrayChange}
use Rattle.array_rows.specs.declared.changing.ArrayChange.TheVariants as change
use Rattle.array_rows.specs.declared.changing.ArrayPatch.{ArrayPatch}
use Rattle.array_rows.specs.declared.changing.ArrayPut.{ArrayPut}

-- ---- PutDataArrays

-- what the elements of each kind mean if nothing else is said
abbrev pub plain_meaning : AnyArray → ℕ
plain_meaning (any.ArrayOfBoolean l) = 0
plain_meaning (any.ArrayOfInt l) = 4
plain_meaning (any.ArrayOfLong l) = 5
plain_meaning (any.ArrayOfFloat l) = 9
plain_meaning (any.ArrayOfDouble l) = 10
plain_meaning (any.ArrayOfString l) = 19
plain_meaning (any.Bytes b) = 2

-- what is stored of an array: the store sets when it was put
abbrev pub put_record : DataArray → List (List ℕ × DataValue) → ArrayRecord
put_record a custom = record {
  dims = a.dimensions;
  preferred = a.dimensions;
  values = a.payload;
  logical = plain_meaning a.payload;
  custom = custom;
  written = pos 0;
  created = pos 0;
}

-- a valid array, with custom data that are not too large
abbrev pub put_unless : Option ArrayError → ArrayKey → ArrayRecord → Decision ArrayPut
put_unless (Some e) k r = Refused (code_of e)
put_unless None k r = if is_custom_large r.custom then Refused SizeExceeded else Granted (record { key = k; array = r })

abbrev pub put_at : PutDataArraysType → Decision ArrayKey → Decision ArrayPut
put_at x (Refused code) = Refused code
put_at x (Granted k) = put_unless (record_refusal (put_record x.array x.custom_data)) k (put_record x.array x.custom_data)

-- an array to be put: its name, its dimensions and elements, and its custom data are tested in this order
abbrev pub checked_put : Option Transaction → PutDataArraysType → Decision ArrayPut
checked_put stage x = put_at x (named_array stage x.uid)

-- ---- PutUninitializedDataArrays

-- this many elements of a kind: false, 0, the empty text or the byte 0. Floating-point zeros are positive
abbrev pub zeros : AnyArrayType → ℕ → AnyArray
zeros kinds.ArrayOfBoolean n = any.ArrayOfBoolean (replicate n false)
zeros kinds.ArrayOfInt n = any.ArrayOfInt (replicate n (pos 0))
zeros kinds.ArrayOfLong n = any.ArrayOfLong (replicate n (pos 0))
zeros kinds.ArrayOfFloat n = any.ArrayOfFloat (replicate n (record { 0 = 0 }))
zeros kinds.ArrayOfDouble n = any.ArrayOfDouble (replicate n (record { 0 = 0 }))
zeros kinds.ArrayOfString n = any.ArrayOfString (replicate n [])
zeros kinds.Bytes n = any.Bytes (replicate n 0)

-- the size of an element of a kind
abbrev pub zero_size : AnyArrayType → ℕ
zero_size kinds.ArrayOfBoolean = 1
zero_size kinds.ArrayOfInt = 4
zero_size kinds.ArrayOfLong = 8
zero_size kinds.ArrayOfFloat = 4
zero_size kinds.ArrayOfDouble = 8
zero_size kinds.ArrayOfString = 8
zero_size kinds.Bytes = 1

abbrev pub made_record : DataArrayMetadata → ℕ → ArrayRecord
made_record m n = record {
  dims = m.dimensions;
  preferred = m.preferred_subarray_dimensions;
  values = zeros m.transport_array_type n;
  logical = logical_type_place m.logical_array_type;
  custom = m.custom_data;
  written = pos 0;
  created = pos 0;
}

-- there are no preferred dimensions, or as many as dimensions
abbrev pub is_preferred : DataArrayMetadata → Bool
is_preferred m = length m.preferred_subarray_dimensions == 0 || length m.preferred_subarray_dimensions == length m.dimensions

-- an array of this many elements, if those of the granted keys have this size: with it the request creates at most 67,108,864
abbrev pub made_within : ℕ → ArrayKey → DataArrayMetadata → ℕ → ℕ × Decision ArrayPut
made_within sum k m n =
    if not (nat_le (sum + zero_size m.transport_array_type * n) 67108864) then (sum, Refused SizeExceeded)
    else if is_custom_large m.custom_data then (sum, Refused SizeExceeded)
    else (sum + zero_size m.transport_array_type * n, Granted (record { key = k; array = made_record m n }))

abbrev pub made_of : ℕ → ArrayKey → DataArrayMetadata → Result ℕ ArrayError → ℕ × Decision ArrayPut
made_of sum k m (Err e) = (sum, Refused (code_of e))
made_of sum k m (Ok n) = if is_preferred m then made_within sum k m n else (sum, Refused InvalidArgument)

abbrev pub made_at : ℕ → DataArrayMetadata → Decision ArrayKey → ℕ × Decision ArrayPut
made_at sum m (Refused code) = (sum, Refused code)
made_at sum m (Granted k) = made_of sum k m (dims_of m.dimensions None)

-- an array to be created: its name, its dimensions, the preferred ones, the elements of the request and its custom data are tested in this
-- order
abbrev pub checked_made : Option Transaction → ℕ → PutUninitializedDataArrayType → ℕ × Decision ArrayPut
checked_made stage sum x = made_at sum x.metadata (named_array stage x.uid)

-- ---- PutDataSubarrays

abbrev pub patch_at : PutDataSubarraysType → Decision ArrayKey → Decision ArrayPatch
patch_at x (Refused code) = Refused code
patch_at x (Granted k) = Granted (record { key = k; starts = x.starts; counts = x.counts; values = x.payload })

abbrev pub checked_patch : Option Transaction → PutDataSubarraysType → Decision ArrayPatch
checked_patch stage x = patch_at x (named_array stage x.uid)

-- ---- operations, and what is looked at before they are staged

abbrev pub set_array : ℤ → ArrayPut → Op
set_array at x = record { key = Array x.key; what = SetArray x.array; at = at }

abbrev pub patch_array : ℤ → ArrayPatch → Op
patch_array at x = record { key = Array x.key; what = Patch x.starts x.counts x.values; at = at }

abbrev pub op_of : {A : Type 0} → (A → Op) → Decision A → Decision Op
op_of make (Granted x) = Granted (make x)
op_of make (Refused code) = Refused code

-- the array's object, and the array
abbrev pub put_wants : ArrayPut → List Want
put_wants x = want.Known x.key.uri ∷ want.Shape x.key ∷ []

-- ---- what becomes of a key: an empty text

abbrev pub change_response : ArrayChange → List (List ℕ × List ℕ) → DataArrayMessage
change_response change.Put success = message.PutDataArraysResponse (record { success = success })
change_response change.Patch success = message.PutDataSubarraysResponse (record { success = success })
change_response change.Make success = message.PutUninitializedDataArraysResponse (record { success = success })

-- what the store decided about a key: the empty text, or a refusal
abbrev pub decided : Verdict → Decision (List ℕ)
decided verdict.Accepted = Granted []
decided (verdict.Refused code) = Refused code

-- the same with its key
abbrev pub decided_found : List ℕ × Verdict → Decision (List ℕ)
decided_found found = decided found.1

abbrev pub staged_put : ℤ → Scope → List ℕ → ArrayPut → List Looked → Scope × Decision (List ℕ)
staged_put at s key x found =
    let o = set_array at x in
    (putting s (Object x.key.uri) o found, granted_unless (found_refusal s.stage (Object x.key.uri) o found) [])

-- a patch of an array that fits it, and whose elements are counted
abbrev pub patch_counted : ℤ → Scope → ArrayPatch → Bool → Scope × Decision (List ℕ)
patch_counted at s x false = (s, Refused LimitExceeded)
patch_counted at s x true = (staging s (patch_array at x), granted_unless (stage_refusal s.stage (patch_array at x)) [])

-- a patch that doesn't fit isn't counted
abbrev pub patch_unless : ℤ → Scope → ArrayPatch → AnyArray → Option ErrorCode → Scope × Decision (List ℕ)
patch_unless at s x whole (Some code) = (s, Refused code)
patch_unless at s x whole None = patch_counted at (paying s (size_of whole)) x (pays s (size_of whole))

-- why values don't fit into a region of an array
abbrev pub write_fault : ArrayRecord → List ℤ → List ℤ → AnyArray → Option ErrorCode
write_fault r starts counts values = option_map code_of (write_refusal r starts counts values)

-- why a patch doesn't fit an array
abbrev pub patch_fault : ArrayRecord → ArrayPatch → Option ErrorCode
patch_fault r x = write_fault r x.starts x.counts x.values

abbrev pub patch_seen : ℤ → Scope → ArrayPatch → Decision ArrayRecord → Scope × Decision (List ℕ)
patch_seen at s x (Refused code) = (s, Refused code)
patch_seen at s x (Granted r) = patch_unless at s x r.values (patch_fault r x)

abbrev pub staged_patch : ℤ → Scope → List ℕ → ArrayPatch → List Looked → Scope × Decision (List ℕ)
staged_patch at s key x found = patch_seen at s x (array_seen s.stage x.key (slice_get found 0))
