-- The requests of the DataArray protocol: what a session answers, and what it asks of the store.
use Rattle.std.specs.Prelude.{ℕ, ℤ, List, [], Option, Some, is_some, if◌then◌else◌}
use Rattle.std.specs.List.{flat_map}
use Rattle.std.specs.Map.{values_of}
use Rattle.etp_values.specs.declared.code.ErrorCode.{ErrorCode}
use Rattle.etp_values.specs.declared.code.ErrorCode.TheVariants.{InvalidMessageType, LimitExceeded, RequestDenied}
use Rattle.keyed_requests.specs.Keyed.{checked, request_outcome}
use Rattle.keyed_requests.specs.Keys.{keys_refusal}
use Rattle.keyed_requests.specs.Plain.{nothing, plain_outcome, plain_reply}
use Rattle.keyed_requests.specs.Sending.{refusal_alone, unless_refused}
use Rattle.keyed_requests.specs.declared.keys.Decision.{Decision}
use Rattle.keyed_requests.specs.declared.sending.Outcome.{Outcome}
use Rattle.keyed_requests.specs.declared.sending.Outcome.TheVariants.{Replies, Calls}
use Rattle.keyed_requests.specs.declared.sending.Sending.{Sending}
use Rattle.msg_store.specs.declared.array_records.DataArrayIdentifier.{DataArrayIdentifier}
use Rattle.msg_store.specs.declared.array_records.GetDataSubarraysType.{GetDataSubarraysType}
use Rattle.msg_store.specs.declared.array_records.PutDataArraysType.{PutDataArraysType}
use Rattle.msg_store.specs.declared.array_records.PutDataSubarraysType.{PutDataSubarraysType}
use Rattle.msg_store.specs.declared.array_records.PutUninitializedDataArrayType.{PutUninitializedDataArrayType}
use Rattle.msg_store.specs.declared.data_array_messages.DataArrayMessage.{DataArrayMessage}
use Rattle.msg_store.specs.declared.data_array_messages.DataArrayMessage.TheVariants as message
use Rattle.request_scope.specs.Reply.{scoped_reply}
use Rattle.request_scope.specs.Scope.{is_read_only}
use Rattle.request_scope.specs.declared.reply.Answered.{Answered}
use Rattle.store_machine.specs.declared.call.Reply.{Reply}
use Rattle.store_machine.specs.declared.call.Reply.TheVariants as answer
use Rattle.store_machine.specs.declared.call.StoreCall.{StoreCall}
use Rattle.store_machine.specs.declared.call.StoreCall.TheVariants as call
use Rattle.store_machine.specs.declared.call.Verdict.{Verdict}
use Rattle.tx_stage.specs.Staging.{Transaction}
use Rattle.tx_stage.specs.declared.look.Looked.{Looked}
use Rattle.tx_stage.specs.declared.look.Want.{Want}
use Rattle.tx_stage.specs.declared.look.Want.TheVariants as want
use Rattle.tx_stage.specs.declared.op.Op.{Op}
use Rattle.array_rows.specs.Changing.{change_response, checked_made, checked_patch, checked_put, decided_found, op_of, patch_array, put_wants, set_array, staged_patch, staged_put}
use Rattle.array_rows.specs.Naming.{named_array, named_region}
use Rattle.array_rows.specs.Reading.{arrays_response, get_one, metadata_response, shape_one, slice_one, slice_want, slices_response, staged_shape, staged_slice}
use Rattle.array_rows.specs.declared.arrays.ArrayPending.{ArrayPending}
use Rattle.array_rows.specs.declared.arrays.ArrayPending.TheVariants as pending
use Rattle.array_rows.specs.declared.changing.ArrayChange.{ArrayChange}
use Rattle.array_rows.specs.declared.changing.ArrayChange.TheVariants as change

abbrev pub ArrayOutcome : Type 0
ArrayOutcome = Outcome StoreCall ArrayPending DataArrayMessage

abbrev pub ArraysAnswered : Type 0
ArraysAnswered = Answered DataArrayMessage

-- a reply that leaves the transaction unchanged
abbrev pub says : Option Transaction → List (Sending DataArrayMessage) → ArraysAnswered
says stage sendings = record { stage = stage; sendings = sendings }

-- ---- calls

-- the looks make one call
abbrev pub looks_called : {K : Type 0} → (List (List ℕ × Decision K) → ArrayPending) → Outcome (List (List ℕ × Want)) (List (List ℕ × Decision K)) DataArrayMessage → ArrayOutcome
looks_called keep (Replies sendings) = Replies sendings
looks_called keep (Calls wants kept) = Calls (call.Look (values_of wants)) (keep kept)

-- several looks under each key also make one call
abbrev pub joined_called : {K : Type 0} → (List (List ℕ × Decision K) → ArrayPending) → Outcome (List (List ℕ × List Want)) (List (List ℕ × Decision K)) DataArrayMessage → ArrayOutcome
joined_called keep (Replies sendings) = Replies sendings
joined_called keep (Calls wants kept) = Calls (call.Look (flat_map (λ x. x.1) wants)) (keep kept)

-- the operations make one call
abbrev pub ops_call : ArrayChange → Outcome (List (List ℕ × Op)) (List (List ℕ × Decision (Unit {0}))) DataArrayMessage → ArrayOutcome
ops_call what (Replies sendings) = Replies sendings
ops_call what (Calls ops kept) = Calls (call.Put ops) (pending.Change what kept)

-- ---- reading

abbrev pub get_outcome : Option Transaction → List (List ℕ × DataArrayIdentifier) → ArrayOutcome
get_outcome stage ids = looks_called pending.Get (request_outcome (λ k. k) want.Array arrays_response (checked (λ s id. (s, named_array stage id)) nothing ids))

-- regions outside a transaction, and in one
abbrev pub unstaged_slice_outcome : Option Transaction → List (List ℕ × GetDataSubarraysType) → ArrayOutcome
unstaged_slice_outcome stage asked = looks_called pending.Slice (request_outcome (λ r. r.counts) slice_want slices_response (checked (λ s x. (s, named_region stage x)) nothing asked))

abbrev pub staged_slice_outcome : Option Transaction → List (List ℕ × GetDataSubarraysType) → ArrayOutcome
staged_slice_outcome stage asked = looks_called pending.StagedSlice (request_outcome (λ r. r) (λ r. want.Array r.key) slices_response (checked (λ s x. (s, named_region stage x)) nothing asked))

abbrev pub slice_outcome : Option Transaction → List (List ℕ × GetDataSubarraysType) → ArrayOutcome
slice_outcome stage asked = if is_some stage then staged_slice_outcome stage asked else unstaged_slice_outcome stage asked

-- metadata outside a transaction, and in one
abbrev pub unstaged_metadata_outcome : Option Transaction → List (List ℕ × DataArrayIdentifier) → ArrayOutcome
unstaged_metadata_outcome stage ids = looks_called pending.Shape (request_outcome (λ k. nothing) want.Shape metadata_response (checked (λ s id. (s, named_array stage id)) nothing ids))

abbrev pub staged_metadata_outcome : Option Transaction → List (List ℕ × DataArrayIdentifier) → ArrayOutcome
staged_metadata_outcome stage ids = looks_called pending.StagedShape (request_outcome (λ k. k) want.Array metadata_response (checked (λ s id. (s, named_array stage id)) nothing ids))

abbrev pub metadata_outcome : Option Transaction → List (List ℕ × DataArrayIdentifier) → ArrayOutcome
metadata_outcome stage ids = if is_some stage then staged_metadata_outcome stage ids else unstaged_metadata_outcome stage ids

-- ---- changing

-- why a change of arrays is refused as a whole: the transaction only reads, or its keys exceed the limits
abbrev pub change_refusal : {A : Type 0} → Option Transaction → List (List ℕ × A) → Option ErrorCode
change_refusal stage items = if is_read_only stage then Some RequestDenied else keys_refusal items

-- arrays are put outside a transaction, and staged in one
abbrev pub unstaged_put_outcome : Option Transaction → ℤ → List (List ℕ × PutDataArraysType) → ArrayOutcome
unstaged_put_outcome stage at arrays = ops_call change.Put (plain_outcome (λ x. op_of (set_array at) (checked_put stage x)) (change_response change.Put) arrays)

abbrev pub staged_put_outcome : Option Transaction → ℤ → List (List ℕ × PutDataArraysType) → ArrayOutcome
staged_put_outcome stage at arrays = joined_called (pending.StagedPut change.Put at) (request_outcome (λ x. x) put_wants (change_response change.Put) (checked (λ s x. (s, checked_put stage x)) nothing arrays))

abbrev pub put_outcome : Option Transaction → ℤ → List (List ℕ × PutDataArraysType) → ArrayOutcome
put_outcome stage at arrays = if is_some stage then staged_put_outcome stage at arrays else unstaged_put_outcome stage at arrays

-- the same for arrays to be created
abbrev pub unstaged_make_outcome : Option Transaction → ℤ → List (List ℕ × PutUninitializedDataArrayType) → ArrayOutcome
unstaged_make_outcome stage at arrays = ops_call change.Make (request_outcome (λ x. nothing) (set_array at) (change_response change.Make) (checked (checked_made stage) 0 arrays))

abbrev pub staged_make_outcome : Option Transaction → ℤ → List (List ℕ × PutUninitializedDataArrayType) → ArrayOutcome
staged_make_outcome stage at arrays = joined_called (pending.StagedPut change.Make at) (request_outcome (λ x. x) put_wants (change_response change.Make) (checked (checked_made stage) 0 arrays))

abbrev pub make_outcome : Option Transaction → ℤ → List (List ℕ × PutUninitializedDataArrayType) → ArrayOutcome
make_outcome stage at arrays = if is_some stage then staged_make_outcome stage at arrays else unstaged_make_outcome stage at arrays

-- the same for patches
abbrev pub unstaged_patch_outcome : Option Transaction → ℤ → List (List ℕ × PutDataSubarraysType) → ArrayOutcome
unstaged_patch_outcome stage at arrays = ops_call change.Patch (plain_outcome (λ x. op_of (patch_array at) (checked_patch stage x)) (change_response change.Patch) arrays)

abbrev pub staged_patch_outcome : Option Transaction → ℤ → List (List ℕ × PutDataSubarraysType) → ArrayOutcome
staged_patch_outcome stage at arrays = looks_called (pending.StagedPatch at) (request_outcome (λ x. x) (λ x. want.Array x.key) (change_response change.Patch) (checked (λ s x. (s, checked_patch stage x)) nothing arrays))

abbrev pub patch_outcome : Option Transaction → ℤ → List (List ℕ × PutDataSubarraysType) → ArrayOutcome
patch_outcome stage at arrays = if is_some stage then staged_patch_outcome stage at arrays else unstaged_patch_outcome stage at arrays

-- ---- what comes of a message

-- what a request on arrays comes to before it is answered, within the staged transaction, if one is open, and the time
abbrev pub array_outcome : Option Transaction → ℤ → DataArrayMessage → ArrayOutcome
array_outcome stage at (message.GetDataArrays m) = unless_refused (keys_refusal m.data_arrays) (get_outcome stage m.data_arrays)
array_outcome stage at (message.GetDataSubarrays m) = unless_refused (keys_refusal m.data_subarrays) (slice_outcome stage m.data_subarrays)
array_outcome stage at (message.GetDataArrayMetadata m) = unless_refused (keys_refusal m.data_arrays) (metadata_outcome stage m.data_arrays)
array_outcome stage at (message.PutDataArrays m) = unless_refused (change_refusal stage m.data_arrays) (put_outcome stage at m.data_arrays)
array_outcome stage at (message.PutDataSubarrays m) = unless_refused (change_refusal stage m.data_subarrays) (patch_outcome stage at m.data_subarrays)
array_outcome stage at (message.PutUninitializedDataArrays m) = unless_refused (change_refusal stage m.data_arrays) (make_outcome stage at m.data_arrays)
array_outcome stage at (message.GetDataArraysResponse m) = Replies (refusal_alone InvalidMessageType)
array_outcome stage at (message.GetDataArrayMetadataResponse m) = Replies (refusal_alone InvalidMessageType)
array_outcome stage at (message.GetDataSubarraysResponse m) = Replies (refusal_alone InvalidMessageType)
array_outcome stage at (message.PutDataArraysResponse m) = Replies (refusal_alone InvalidMessageType)
array_outcome stage at (message.PutDataSubarraysResponse m) = Replies (refusal_alone InvalidMessageType)
array_outcome stage at (message.PutUninitializedDataArraysResponse m) = Replies (refusal_alone InvalidMessageType)

-- ---- what comes of the store's answer to its call; an answer that does not belong to the call has no reply

-- the answer has verdicts
abbrev pub verdicts_reply : Option Transaction → ArrayPending → List (List ℕ × Verdict) → ArraysAnswered
verdicts_reply stage (pending.Change what items) verdicts = says stage (plain_reply decided_found (change_response what) items verdicts)
verdicts_reply stage _ verdicts = says stage []

-- the answer has looks
abbrev pub looks_reply : ℕ → Option Transaction → ArrayPending → List Looked → ArraysAnswered
looks_reply limit stage (pending.Get items) looks = scoped_reply (get_one limit) 1 arrays_response stage items looks
looks_reply limit stage (pending.Slice items) looks = scoped_reply (slice_one limit) 1 slices_response stage items looks
looks_reply limit stage (pending.StagedSlice items) looks = scoped_reply (staged_slice limit) 1 slices_response stage items looks
looks_reply limit stage (pending.Shape items) looks = scoped_reply (shape_one limit) 1 metadata_response stage items looks
looks_reply limit stage (pending.StagedShape items) looks = scoped_reply (staged_shape limit) 1 metadata_response stage items looks
looks_reply limit stage (pending.StagedPut what at items) looks = scoped_reply (staged_put at) 2 (change_response what) stage items looks
looks_reply limit stage (pending.StagedPatch at items) looks = scoped_reply (staged_patch at) 1 (change_response change.Patch) stage items looks
looks_reply limit stage (pending.Change what items) looks = says stage []

-- the reply to a request of which this is kept, once the store has answered, in parts of at most this many bytes, and what it leaves of the
-- open transaction
abbrev pub array_reply : ℕ → Option Transaction → ArrayPending → Reply → ArraysAnswered
array_reply limit stage kept (answer.Verdicts verdicts) = verdicts_reply stage kept verdicts
array_reply limit stage kept (answer.Looked looks) = looks_reply limit stage kept looks
array_reply limit stage kept answer.JournalFull = says stage (refusal_alone LimitExceeded)
array_reply limit stage kept _ = says stage []
