-- The rows of a transaction do not see what it touched: the first half of each request, and that it looks only where it may.
use Rattle.std.specs.Prelude.{ℕ, ℤ, Bool, true, false, not, ◌+◌, ◌*◌, ◌≡◌, List, [], ◌∷◌, Option, Some, None, Result, Ok, Err, refl, if◌then◌else◌, nat_le, nat_lt}
use Rattle.std.specs.List.{AllByRecursion, flat_map}
use Rattle.std.specs.Map.{values_of}
use Rattle.std.proofs.Common.{ap}
use Rattle.array_rows.specs.Arrays as arrays
use Rattle.array_rows.specs.Changing as changing
use Rattle.array_rows.specs.Naming.{array_at, is_path, named_array, named_region, region_at}
use Rattle.array_rows.specs.Reading as reading
use Rattle.array_rows.specs.Sizes.{is_custom_large}
use Rattle.array_rows.specs.declared.arrays.ArrayPending.{ArrayPending}
use Rattle.array_rows.specs.declared.arrays.ArrayPending.TheVariants as keeps_array
use Rattle.array_rows.specs.declared.changing.ArrayChange.TheVariants as change
use Rattle.array_rows.specs.declared.changing.ArrayPatch.{ArrayPatch}
use Rattle.array_rows.specs.declared.changing.ArrayPut.{ArrayPut}
use Rattle.array_rows.specs.declared.naming.Region.{Region}
use Rattle.array_store.specs.Refusals.{dims_of, record_refusal}
use Rattle.array_store.specs.declared.error.ArrayError.{ArrayError}
use Rattle.array_store.specs.declared.key.ArrayKey.{ArrayKey}
use Rattle.array_store.specs.declared.record.ArrayRecord.{ArrayRecord}
use Rattle.etp_values.proofs.EachLemmas.{all-append}
use Rattle.etp_values.specs.declared.code.ErrorCode.{ErrorCode}
use Rattle.etp_values.specs.declared.code.ErrorCode.TheVariants.{InvalidArgument, RequestDenied, SizeExceeded}
use Rattle.etp_values.specs.declared.uri.StoreUri.{StoreUri}
use Rattle.keyed_requests.specs.Keyed.{called, checked, kept, request_outcome, sent}
use Rattle.keyed_requests.specs.Keys.{keys_refusal}
use Rattle.keyed_requests.specs.Plain.{nothing}
use Rattle.keyed_requests.specs.Sending.{unless_refused}
use Rattle.keyed_requests.specs.Uris.{object_uri}
use Rattle.keyed_requests.specs.declared.keys.Decision.{Decision}
use Rattle.keyed_requests.specs.declared.keys.Decision.TheVariants.{Granted, Refused}
use Rattle.keyed_requests.specs.declared.sending.Outcome.{Outcome}
use Rattle.keyed_requests.specs.declared.sending.Outcome.TheVariants.{Replies, Calls}
use Rattle.msg_store.specs.declared.array_records.DataArrayIdentifier.{DataArrayIdentifier}
use Rattle.msg_store.specs.declared.array_records.DataArrayMetadata.{DataArrayMetadata}
use Rattle.msg_store.specs.declared.array_records.GetDataSubarraysType.{GetDataSubarraysType}
use Rattle.msg_store.specs.declared.array_records.PutDataArraysType.{PutDataArraysType}
use Rattle.msg_store.specs.declared.array_records.PutDataSubarraysType.{PutDataSubarraysType}
use Rattle.msg_store.specs.declared.array_records.PutUninitializedDataArrayType.{PutUninitializedDataArrayType}
use Rattle.msg_store.specs.declared.data_array_messages.DataArrayMessage.{DataArrayMessage}
use Rattle.msg_store.specs.declared.data_array_messages.DataArrayMessage.TheVariants as array
use Rattle.msg_store.specs.declared.store_messages.DataObject.{DataObject}
use Rattle.msg_store.specs.declared.store_messages.StoreMessage.{StoreMessage}
use Rattle.msg_store.specs.declared.store_messages.StoreMessage.TheVariants as object
use Rattle.object_store.specs.declared.records.ObjectRecord.{ObjectRecord}
use Rattle.request_scope.specs.Scope.{may_use}
use Rattle.session_rows.specs.ObjectChecks.{checked_object, extras_size, in_space, is_kept, named_object, put_at, put_in_format, session_format}
use Rattle.session_rows.specs.Objects as objects
use Rattle.session_rows.specs.declared.formats.Format.{Format}
use Rattle.store_machine.specs.declared.call.StoreCall.{StoreCall}
use Rattle.store_machine.specs.declared.call.StoreCall.TheVariants as call
use Rattle.tx_stage.specs.Keys.{space_of}
use Rattle.tx_stage.specs.Looks.{key_of}
use Rattle.tx_stage.specs.Staging.{Transaction, has_space}
use Rattle.tx_stage.specs.declared.look.Want.{Want}
use Rattle.tx_stage.specs.declared.look.Want.TheVariants as want
use Rattle.tx_stage.specs.declared.touch.Touch.{Touch}
use Rattle.session_core.proofs.RetouchedLemmas.{retouched}

-- ---- whatever a transaction touched, the same is asked

module _ (ts : List Touch) (x : Transaction) where
  in_space-same : (d : Decision StoreUri) → in_space (Some (retouched ts x)) d ≡ in_space (Some x) d
  in_space-same (Granted u) = refl
  in_space-same (Refused code) = refl

  array_at-same : (path : List ℕ) (d : Decision StoreUri) → array_at (Some (retouched ts x)) path d ≡ array_at (Some x) path d
  array_at-same path (Granted u) = refl
  array_at-same path (Refused code) = refl

  named : named_object (Some (retouched ts x)) ≡ named_object (Some x)
  named = λ j. λ text. in_space-same (object_uri text) j

  named-array : named_array (Some (retouched ts x)) ≡ named_array (Some x)
  named-array = λ j. λ id. array_at-same id.path_in_resource (object_uri id.uri) j

  get_same : (uris : List (List ℕ × List ℕ)) (f : Option Format) → objects.get_outcome (Some (retouched ts x)) uris f ≡ objects.get_outcome (Some x) uris f
  get_same uris None = refl
  get_same uris (Some f) = ap (λ (N : List ℕ → Decision StoreUri). objects.get_call f (request_outcome (λ u. u) want.Object objects.get_response (checked (λ s uri. (s, N uri)) nothing uris))) named

  put_same : (formats : List Format) (types : Option (List (List ℕ))) (at : ℤ) (xs : List (List ℕ × DataObject)) → objects.put_outcome formats types (Some (retouched ts x)) at xs ≡ objects.put_outcome formats types (Some x) at xs
  put_same formats types at xs = ap (λ (N : List ℕ → Decision StoreUri). objects.staged_put_call at (request_outcome (λ r. r) objects.put_wants objects.put_response (checked (λ s o. (s, put_at formats types o (N o.resource.uri))) nothing xs))) named

  delete_same : (at : ℤ) (uris : List (List ℕ × List ℕ)) → objects.delete_outcome (Some (retouched ts x)) at uris ≡ objects.delete_outcome (Some x) at uris
  delete_same at uris = ap (λ (N : List ℕ → Decision StoreUri). objects.staged_delete_call at (request_outcome (λ u. u) want.Known objects.delete_response (checked (λ s uri. (s, N uri)) nothing uris))) named

  pub objects_same : (formats : List Format) (types : Option (List (List ℕ))) (at : ℤ) (m : StoreMessage) → objects.object_outcome formats types (Some (retouched ts x)) at m ≡ objects.object_outcome formats types (Some x) at m
  objects_same formats types at (object.GetDataObjects m) = ap (λ (o : objects.ObjectOutcome). unless_refused (keys_refusal m.uris) o) (get_same m.uris (session_format formats m.format))
  objects_same formats types at (object.PutDataObjects m) = ap (λ (o : objects.ObjectOutcome). unless_refused (objects.change_refusal (Some x) m.prune_contained_objects m.data_objects) o) (put_same formats types at m.data_objects)
  objects_same formats types at (object.DeleteDataObjects m) = ap (λ (o : objects.ObjectOutcome). unless_refused (objects.change_refusal (Some x) m.prune_contained_objects m.uris) o) (delete_same at m.uris)
  objects_same formats types at (object.GetDataObjectsResponse m) = refl
  objects_same formats types at (object.Chunk m) = refl
  objects_same formats types at (object.PutDataObjectsResponse m) = refl
  objects_same formats types at (object.DeleteDataObjectsResponse m) = refl

  -- all that is named of arrays
  abbrev of_arrays : ℤ → DataArrayMessage → (DataArrayIdentifier → Decision ArrayKey) → arrays.ArrayOutcome
  of_arrays at (array.GetDataArrays m) N = arrays.looks_called keeps_array.Get (request_outcome (λ k. k) want.Array reading.arrays_response (checked (λ s id. (s, N id)) nothing m.data_arrays))
  of_arrays at (array.GetDataSubarrays m) N = arrays.looks_called keeps_array.StagedSlice (request_outcome (λ r. r) (λ r. want.Array r.key) reading.slices_response (checked (λ s a. (s, region_at a.starts a.counts (N a.uid))) nothing m.data_subarrays))
  of_arrays at (array.GetDataArrayMetadata m) N = arrays.looks_called keeps_array.StagedShape (request_outcome (λ k. k) want.Array reading.metadata_response (checked (λ s id. (s, N id)) nothing m.data_arrays))
  of_arrays at (array.PutDataArrays m) N = arrays.joined_called (keeps_array.StagedPut change.Put at) (request_outcome (λ a. a) changing.put_wants (changing.change_response change.Put) (checked (λ s a. (s, changing.put_at a (N a.uid))) nothing m.data_arrays))
  of_arrays at (array.PutDataSubarrays m) N = arrays.looks_called (keeps_array.StagedPatch at) (request_outcome (λ a. a) (λ a. want.Array a.key) (changing.change_response change.Patch) (checked (λ s a. (s, changing.patch_at a (N a.uid))) nothing m.data_subarrays))
  of_arrays at (array.PutUninitializedDataArrays m) N = arrays.joined_called (keeps_array.StagedPut change.Make at) (request_outcome (λ a. a) changing.put_wants (changing.change_response change.Make) (checked (λ sum a. changing.made_at sum a.metadata (N a.uid)) 0 m.data_arrays))
  of_arrays at m N = arrays.array_outcome (Some x) at m

  pub arrays_same : (at : ℤ) (m : DataArrayMessage) → arrays.array_outcome (Some (retouched ts x)) at m ≡ arrays.array_outcome (Some x) at m
  arrays_same at (array.GetDataArrays m) = ap (λ (N : DataArrayIdentifier → Decision ArrayKey). unless_refused (keys_refusal m.data_arrays) (of_arrays at (array.GetDataArrays m) N)) named-array
  arrays_same at (array.GetDataSubarrays m) = ap (λ (N : DataArrayIdentifier → Decision ArrayKey). unless_refused (keys_refusal m.data_subarrays) (of_arrays at (array.GetDataSubarrays m) N)) named-array
  arrays_same at (array.GetDataArrayMetadata m) = ap (λ (N : DataArrayIdentifier → Decision ArrayKey). unless_refused (keys_refusal m.data_arrays) (of_arrays at (array.GetDataArrayMetadata m) N)) named-array
  arrays_same at (array.PutDataArrays m) = ap (λ (N : DataArrayIdentifier → Decision ArrayKey). unless_refused (arrays.change_refusal (Some x) m.data_arrays) (of_arrays at (array.PutDataArrays m) N)) named-array
  arrays_same at (array.PutDataSubarrays m) = ap (λ (N : DataArrayIdentifier → Decision ArrayKey). unless_refused (arrays.change_refusal (Some x) m.data_subarrays) (of_arrays at (array.PutDataSubarrays m) N)) named-array
  arrays_same at (array.PutUninitializedDataArrays m) = ap (λ (N : DataArrayIdentifier → Decision ArrayKey). unless_refused (arrays.change_refusal (Some x) m.data_arrays) (of_arrays at (array.PutUninitializedDataArrays m) N)) named-array
  arrays_same at (array.GetDataArraysResponse m) = refl
  arrays_same at (array.GetDataArrayMetadataResponse m) = refl
  arrays_same at (array.GetDataSubarraysResponse m) = refl
  arrays_same at (array.PutDataArraysResponse m) = refl
  arrays_same at (array.PutDataSubarraysResponse m) = refl
  arrays_same at (array.PutUninitializedDataArraysResponse m) = refl

-- ---- what is sent of the keys that are granted

abbrev OnGranted : {B : Type 0} → (B → Type 0) → Decision B → Type 0
OnGranted Q (Granted b) = Q b
OnGranted Q (Refused code) = Unit {0}

checked-all : {S A B : Type 0} (one : S → A → S × Decision B) (Q : B → Type 0) → ((s : S) (a : A) → OnGranted Q (one s a).1) → (s : S) (xs : List (List ℕ × A)) → AllByRecursion (λ y. OnGranted Q y.1) (checked one s xs)
checked-all one Q each s [] = tt
checked-all one Q each s (x ∷ xs) = (each s x.1, checked-all one Q each (one s x.1).0 xs)

sent-all : {A B : Type 0} (send : A → B) (Q : A → Type 0) (P : B → Type 0) → ((a : A) → Q a → P (send a)) → (items : List (List ℕ × Decision A)) → AllByRecursion (λ y. OnGranted Q y.1) items → AllByRecursion (λ y. P y.1) (sent send items)
sent-all send Q P each [] all = tt
sent-all send Q P each ((k, Granted a) ∷ xs) all = (each a all.0, sent-all send Q P each xs all.1)
sent-all send Q P each ((k, Refused code) ∷ xs) all = sent-all send Q P each xs all.1

values-all : {B : Type 0} (P : B → Type 0) (xs : List (List ℕ × B)) → AllByRecursion (λ y. P y.1) xs → AllByRecursion P (values_of xs)
values-all P [] all = tt
values-all P (x ∷ xs) all = (all.0, values-all P xs all.1)

joined-all : {B : Type 0} (P : B → Type 0) (xs : List (List ℕ × List B)) → AllByRecursion (λ y. AllByRecursion P y.1) xs → AllByRecursion P (flat_map (λ y. y.1) xs)
joined-all P [] all = tt
joined-all P (x ∷ xs) all = all-append P x.1 (flat_map (λ y. y.1) xs) all.0 (joined-all P xs all.1)

-- ---- a request in a transaction makes no call but a look, in the dataspaces that it may touch

module _ (x : Transaction) where
  abbrev InSpaces : Want → Type 0
  InSpaces w = has_space x.spaces (space_of (key_of w)) ≡ true

  abbrev pub LooksWithin : StoreCall → Type 0
  LooksWithin (call.Look wants) = AllByRecursion InSpaces wants
  LooksWithin _ = ⊥

  abbrev pub OnCalls : {P M : Type 0} → Outcome StoreCall P M → Type 0
  OnCalls (Replies sendings) = Unit {0}
  OnCalls (Calls c p) = LooksWithin c

  unless : {P M : Type 0} (why : Option ErrorCode) (o : Outcome StoreCall P M) → OnCalls o → OnCalls (unless_refused why o)
  unless (Some code) o looks = tt
  unless None o looks = looks

  abbrev Has : List ℕ → Type 0
  Has path = has_space x.spaces path ≡ true

  if_granted : {B : Type 0} (Q : B → Type 0) (why : ErrorCode) (b : B) (t : Bool) → (t ≡ true → Q b) → OnGranted Q (if t then Granted b else Refused why)
  if_granted Q why b true is = is refl
  if_granted Q why b false is = tt

  if_refused : {B : Type 0} (Q : B → Type 0) (why : ErrorCode) (d : Decision B) (t : Bool) → OnGranted Q d → OnGranted Q (if t then Refused why else d)
  if_refused Q why d true is = tt
  if_refused Q why d false is = is

  in_space_has : (d : Decision StoreUri) → OnGranted (λ (u : StoreUri). Has u.space) (in_space (Some x) d)
  in_space_has (Granted u) = if_granted (λ u. Has u.space) _ u (may_use (Some x) u.space) (λ is. is)
  in_space_has (Refused code) = tt

  object_has : (text : List ℕ) → OnGranted (λ (u : StoreUri). Has u.space) (named_object (Some x) text)
  object_has text = in_space_has (object_uri text)

  at_has : (path : List ℕ) (u : StoreUri) (a b : Bool) → may_use (Some x) u.space ≡ b
      → OnGranted (λ (k : ArrayKey). Has k.uri.space) (if a then Refused InvalidArgument else if not b then Refused RequestDenied else Granted (record { uri = u; path = path }))
  at_has path u true b is = tt
  at_has path u false true is = is
  at_has path u false false is = tt

  array_at_has : (path : List ℕ) (d : Decision StoreUri) → OnGranted (λ (k : ArrayKey). Has k.uri.space) (array_at (Some x) path d)
  array_at_has path (Refused code) = tt
  array_at_has path (Granted u) = at_has path u (not (is_path path)) (may_use (Some x) u.space) refl

  array_has : (id : DataArrayIdentifier) → OnGranted (λ (k : ArrayKey). Has k.uri.space) (named_array (Some x) id)
  array_has id = array_at_has id.path_in_resource (object_uri id.uri)

  -- ---- objects
  got : (f : Format) (items : List (List ℕ × Decision StoreUri)) (ws : List (List ℕ × Want)) → AllByRecursion (λ y. InSpaces y.1) ws → OnCalls (objects.get_call f (called objects.get_response items ws))
  got f items [] all = tt
  got f items (w ∷ ws) all = values-all InSpaces (w ∷ ws) all

  get_objects : (uris : List (List ℕ × List ℕ)) (f : Option Format) → OnCalls (objects.get_outcome (Some x) uris f)
  get_objects uris None = tt
  get_objects uris (Some f) =
      let items = checked (λ s uri. (s, named_object (Some x) uri)) nothing uris in
      got f (kept (λ u. u) items) (sent want.Object items)
      (sent-all want.Object (λ u. Has u.space) InSpaces (λ u is. is) items (checked-all (λ s uri. (s, named_object (Some x) uri)) (λ u. Has u.space) (λ s uri. object_has uri) nothing uris))

  in_format_has : (u : StoreUri) (o : DataObject) (f : Option Format) → Has u.space → OnGranted (λ (r : ObjectRecord). Has r.uri.space) (put_in_format u o f)
  in_format_has u o None is = tt
  in_format_has u o (Some f) is = if_refused (λ r. Has r.uri.space) _ (Granted _) (nat_lt 16384 (extras_size o.resource)) is

  put_at_has : (formats : List Format) (types : Option (List (List ℕ))) (o : DataObject) (d : Decision StoreUri) → OnGranted (λ (u : StoreUri). Has u.space) d → OnGranted (λ (r : ObjectRecord). Has r.uri.space) (put_at formats types o d)
  put_at_has formats types o (Refused code) is = tt
  put_at_has formats types o (Granted u) is = if_refused (λ r. Has r.uri.space) _ (put_in_format u o (session_format formats o.format)) (not (is_kept types u)) (in_format_has u o (session_format formats o.format) is)

  put_objects_called : (at : ℤ) (items : List (List ℕ × Decision ObjectRecord)) (ws : List (List ℕ × List Want)) → AllByRecursion (λ y. AllByRecursion InSpaces y.1) ws → OnCalls (objects.staged_put_call at (called objects.put_response items ws))
  put_objects_called at items [] all = tt
  put_objects_called at items (w ∷ ws) all = joined-all InSpaces (w ∷ ws) all

  put_objects : (formats : List Format) (types : Option (List (List ℕ))) (at : ℤ) (xs : List (List ℕ × DataObject)) → OnCalls (objects.put_outcome formats types (Some x) at xs)
  put_objects formats types at xs =
      let items = checked (λ s o. (s, checked_object formats types (Some x) o)) nothing xs in
      put_objects_called at (kept (λ r. r) items) (sent objects.put_wants items)
      (sent-all objects.put_wants (λ r. Has r.uri.space) (λ ws. AllByRecursion InSpaces ws) (λ r is. (is, (is, tt))) items
      (checked-all (λ s o. (s, checked_object formats types (Some x) o)) (λ r. Has r.uri.space) (λ s o. put_at_has formats types o (named_object (Some x) o.resource.uri) (object_has o.resource.uri)) nothing xs))

  delete_call : (at : ℤ) (items : List (List ℕ × Decision StoreUri)) (ws : List (List ℕ × Want)) → AllByRecursion (λ y. InSpaces y.1) ws → OnCalls (objects.staged_delete_call at (called objects.delete_response items ws))
  delete_call at items [] all = tt
  delete_call at items (w ∷ ws) all = values-all InSpaces (w ∷ ws) all

  delete_objects : (at : ℤ) (uris : List (List ℕ × List ℕ)) → OnCalls (objects.delete_outcome (Some x) at uris)
  delete_objects at uris =
      let items = checked (λ s uri. (s, named_object (Some x) uri)) nothing uris in
      delete_call at (kept (λ u. u) items) (sent want.Known items)
      (sent-all want.Known (λ u. Has u.space) InSpaces (λ u is. is) items (checked-all (λ s uri. (s, named_object (Some x) uri)) (λ u. Has u.space) (λ s uri. object_has uri) nothing uris))

  pub objects_look : (formats : List Format) (types : Option (List (List ℕ))) (at : ℤ) (m : StoreMessage) → OnCalls (objects.object_outcome formats types (Some x) at m)
  objects_look formats types at (object.GetDataObjects m) = unless _ _ (get_objects m.uris (session_format formats m.format))
  objects_look formats types at (object.PutDataObjects m) = unless _ _ (put_objects formats types at m.data_objects)
  objects_look formats types at (object.DeleteDataObjects m) = unless _ _ (delete_objects at m.uris)
  objects_look formats types at (object.GetDataObjectsResponse m) = tt
  objects_look formats types at (object.Chunk m) = tt
  objects_look formats types at (object.PutDataObjectsResponse m) = tt
  objects_look formats types at (object.DeleteDataObjectsResponse m) = tt

  -- ---- arrays
  module _ {K R : Type 0} (keep : List (List ℕ × Decision K) → ArrayPending) (response : List (List ℕ × R) → DataArrayMessage) (items : List (List ℕ × Decision K)) where
    looks : (ws : List (List ℕ × Want)) → AllByRecursion (λ y. InSpaces y.1) ws → OnCalls (arrays.looks_called keep (called response items ws))
    looks [] all = tt
    looks (w ∷ ws) all = values-all InSpaces (w ∷ ws) all

    joined : (ws : List (List ℕ × List Want)) → AllByRecursion (λ y. AllByRecursion InSpaces y.1) ws → OnCalls (arrays.joined_called keep (called response items ws))
    joined [] all = tt
    joined (w ∷ ws) all = joined-all InSpaces (w ∷ ws) all

  region_has : (starts counts : List ℤ) (d : Decision ArrayKey) → OnGranted (λ (k : ArrayKey). Has k.uri.space) d → OnGranted (λ (g : Region). Has g.key.uri.space) (region_at starts counts d)
  region_has starts counts (Refused code) is = tt
  region_has starts counts (Granted k) is = is

  put_unless_has : (why : Option ArrayError) (k : ArrayKey) (r : ArrayRecord) → Has k.uri.space → OnGranted (λ (a : ArrayPut). Has a.key.uri.space) (changing.put_unless why k r)
  put_unless_has (Some e) k r is = tt
  put_unless_has None k r is = if_refused (λ a. Has a.key.uri.space) _ (Granted _) (is_custom_large r.custom) is

  array_put_has : (a : PutDataArraysType) (d : Decision ArrayKey) → OnGranted (λ (k : ArrayKey). Has k.uri.space) d → OnGranted (λ (a : ArrayPut). Has a.key.uri.space) (changing.put_at a d)
  array_put_has a (Refused code) is = tt
  array_put_has a (Granted k) is = put_unless_has (record_refusal (changing.put_record a.array a.custom_data)) k (changing.put_record a.array a.custom_data) is

  patch_has : (a : PutDataSubarraysType) (d : Decision ArrayKey) → OnGranted (λ (k : ArrayKey). Has k.uri.space) d → OnGranted (λ (a : ArrayPatch). Has a.key.uri.space) (changing.patch_at a d)
  patch_has a (Refused code) is = tt
  patch_has a (Granted k) is = is

  -- an array made, by the tests
  abbrev made_if : ℕ → ArrayKey → DataArrayMetadata → ℕ → Bool → Bool → ℕ × Decision ArrayPut
  made_if sum k m n large custom =
      if large then (sum, Refused SizeExceeded) else if custom then (sum, Refused SizeExceeded) else (sum + changing.zero_size m.transport_array_type * n, Granted (record { key = k; array = changing.made_record m n }))

  within_has : (sum : ℕ) (k : ArrayKey) (m : DataArrayMetadata) (n : ℕ) (large custom : Bool) → Has k.uri.space → OnGranted (λ (a : ArrayPut). Has a.key.uri.space) (made_if sum k m n large custom).1
  within_has sum k m n true custom is = tt
  within_has sum k m n false true is = tt
  within_has sum k m n false false is = is

  preferred_has : (sum : ℕ) (k : ArrayKey) (m : DataArrayMetadata) (n : ℕ) (b : Bool) → Has k.uri.space → OnGranted (λ (a : ArrayPut). Has a.key.uri.space) (if b then changing.made_within sum k m n else (sum, Refused InvalidArgument)).1
  preferred_has sum k m n true is = within_has sum k m n (not (nat_le (sum + changing.zero_size m.transport_array_type * n) 67108864)) (is_custom_large m.custom_data) is
  preferred_has sum k m n false is = tt

  made_of_has : (sum : ℕ) (k : ArrayKey) (m : DataArrayMetadata) (d : Result ℕ ArrayError) → Has k.uri.space → OnGranted (λ (a : ArrayPut). Has a.key.uri.space) (changing.made_of sum k m d).1
  made_of_has sum k m (Err e) is = tt
  made_of_has sum k m (Ok n) is = preferred_has sum k m n (changing.is_preferred m) is

  made_has : (sum : ℕ) (m : DataArrayMetadata) (d : Decision ArrayKey) → OnGranted (λ (k : ArrayKey). Has k.uri.space) d → OnGranted (λ (a : ArrayPut). Has a.key.uri.space) (changing.made_at sum m d).1
  made_has sum m (Refused code) is = tt
  made_has sum m (Granted k) is = made_of_has sum k m (dims_of m.dimensions None) is

  get_arrays : (ids : List (List ℕ × DataArrayIdentifier)) → OnCalls (arrays.get_outcome (Some x) ids)
  get_arrays ids =
      let items = checked (λ s id. (s, named_array (Some x) id)) nothing ids in
      looks keeps_array.Get reading.arrays_response (kept (λ k. k) items) (sent want.Array items)
      (sent-all want.Array (λ k. Has k.uri.space) InSpaces (λ k is. is) items (checked-all (λ s id. (s, named_array (Some x) id)) (λ k. Has k.uri.space) (λ s id. array_has id) nothing ids))

  describe_arrays : (ids : List (List ℕ × DataArrayIdentifier)) → OnCalls (arrays.metadata_outcome (Some x) ids)
  describe_arrays ids =
      let items = checked (λ s id. (s, named_array (Some x) id)) nothing ids in
      looks keeps_array.StagedShape reading.metadata_response (kept (λ k. k) items) (sent want.Array items)
      (sent-all want.Array (λ k. Has k.uri.space) InSpaces (λ k is. is) items (checked-all (λ s id. (s, named_array (Some x) id)) (λ k. Has k.uri.space) (λ s id. array_has id) nothing ids))

  cut_arrays : (xs : List (List ℕ × GetDataSubarraysType)) → OnCalls (arrays.slice_outcome (Some x) xs)
  cut_arrays xs =
      let items = checked (λ s a. (s, named_region (Some x) a)) nothing xs in
      looks keeps_array.StagedSlice reading.slices_response (kept (λ r. r) items) (sent (λ r. want.Array r.key) items)
      (sent-all (λ r. want.Array r.key) (λ r. Has r.key.uri.space) InSpaces (λ r is. is) items
      (checked-all (λ s a. (s, named_region (Some x) a)) (λ r. Has r.key.uri.space) (λ s a. region_has a.starts a.counts (named_array (Some x) a.uid) (array_has a.uid)) nothing xs))

  put_arrays : (at : ℤ) (xs : List (List ℕ × PutDataArraysType)) → OnCalls (arrays.put_outcome (Some x) at xs)
  put_arrays at xs =
      let items = checked (λ s a. (s, changing.checked_put (Some x) a)) nothing xs in
      joined (keeps_array.StagedPut change.Put at) (changing.change_response change.Put) (kept (λ a. a) items) (sent changing.put_wants items)
      (sent-all changing.put_wants (λ a. Has a.key.uri.space) (λ ws. AllByRecursion InSpaces ws) (λ a is. (is, (is, tt))) items
      (checked-all (λ s a. (s, changing.checked_put (Some x) a)) (λ a. Has a.key.uri.space) (λ s a. array_put_has a (named_array (Some x) a.uid) (array_has a.uid)) nothing xs))

  make_arrays : (at : ℤ) (xs : List (List ℕ × PutUninitializedDataArrayType)) → OnCalls (arrays.make_outcome (Some x) at xs)
  make_arrays at xs =
      let items = checked (changing.checked_made (Some x)) 0 xs in
      joined (keeps_array.StagedPut change.Make at) (changing.change_response change.Make) (kept (λ a. a) items) (sent changing.put_wants items)
      (sent-all changing.put_wants (λ a. Has a.key.uri.space) (λ ws. AllByRecursion InSpaces ws) (λ a is. (is, (is, tt))) items
      (checked-all (changing.checked_made (Some x)) (λ a. Has a.key.uri.space) (λ sum a. made_has sum a.metadata (named_array (Some x) a.uid) (array_has a.uid)) 0 xs))

  patch_arrays : (at : ℤ) (xs : List (List ℕ × PutDataSubarraysType)) → OnCalls (arrays.patch_outcome (Some x) at xs)
  patch_arrays at xs =
      let items = checked (λ s a. (s, changing.checked_patch (Some x) a)) nothing xs in
      looks (keeps_array.StagedPatch at) (changing.change_response change.Patch) (kept (λ a. a) items) (sent (λ a. want.Array a.key) items)
      (sent-all (λ a. want.Array a.key) (λ a. Has a.key.uri.space) InSpaces (λ a is. is) items
      (checked-all (λ s a. (s, changing.checked_patch (Some x) a)) (λ a. Has a.key.uri.space) (λ s a. patch_has a (named_array (Some x) a.uid) (array_has a.uid)) nothing xs))

  pub arrays_look : (at : ℤ) (m : DataArrayMessage) → OnCalls (arrays.array_outcome (Some x) at m)
  arrays_look at (array.GetDataArrays m) = unless _ _ (get_arrays m.data_arrays)
  arrays_look at (array.GetDataSubarrays m) = unless _ _ (cut_arrays m.data_subarrays)
  arrays_look at (array.GetDataArrayMetadata m) = unless _ _ (describe_arrays m.data_arrays)
  arrays_look at (array.PutDataArrays m) = unless _ _ (put_arrays at m.data_arrays)
  arrays_look at (array.PutDataSubarrays m) = unless _ _ (patch_arrays at m.data_subarrays)
  arrays_look at (array.PutUninitializedDataArrays m) = unless _ _ (make_arrays at m.data_arrays)
  arrays_look at (array.GetDataArraysResponse m) = tt
  arrays_look at (array.GetDataArrayMetadataResponse m) = tt
  arrays_look at (array.GetDataSubarraysResponse m) = tt
  arrays_look at (array.PutDataArraysResponse m) = tt
  arrays_look at (array.PutDataSubarraysResponse m) = tt
  arrays_look at (array.PutUninitializedDataArraysResponse m) = tt
