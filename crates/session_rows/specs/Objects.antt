-- The requests of the Store protocol: what a session answers, and what it asks of the store.
use Rattle.std.specs.Prelude.{ℕ, ℤ, ◌==◌, Bool, true, false, List, [], ◌∷◌, Option, Some, None, length, slice_get, if◌then◌else◌}
use Rattle.std.specs.List.{flat_map}
use Rattle.std.specs.Map.{values_of}
use Rattle.std.specs.Str.{bytes_eq}
use Rattle.etp_schema.specs.declared.status.ActiveStatusKind.{ActiveStatusKind}
use Rattle.etp_schema.specs.declared.status.ActiveStatusKind.TheVariants.{Active, Inactive}
use Rattle.etp_values.specs.Uri.{plain_uri}
use Rattle.etp_values.specs.declared.code.ErrorCode.{ErrorCode}
use Rattle.etp_values.specs.declared.code.ErrorCode.TheVariants.{InvalidArgument, InvalidMessageType, LimitExceeded, NoSupportedFormats, NotFound, RequestDenied}
use Rattle.etp_values.specs.declared.uri.StoreUri.{StoreUri}
use Rattle.keyed_requests.specs.Keyed.{checked, finished, granted_unless, request_outcome, request_reply}
use Rattle.keyed_requests.specs.Keys.{keys_refusal}
use Rattle.keyed_requests.specs.Plain.{nothing, plain_outcome, plain_reply}
use Rattle.keyed_requests.specs.Sending.{first_cause, refusal_alone, unless_refused}
use Rattle.keyed_requests.specs.declared.keys.Decision.{Decision}
use Rattle.keyed_requests.specs.declared.keys.Decision.TheVariants.{Granted, Refused}
use Rattle.keyed_requests.specs.declared.sending.Outcome.{Outcome}
use Rattle.keyed_requests.specs.declared.sending.Outcome.TheVariants.{Replies, Calls}
use Rattle.keyed_requests.specs.declared.sending.Sending.{Sending}
use Rattle.msg_store.specs.declared.store_messages.ArrayOfString.{ArrayOfString}
use Rattle.msg_store.specs.declared.store_messages.DataObject.{DataObject}
use Rattle.msg_store.specs.declared.store_messages.PutResponse.{PutResponse}
use Rattle.msg_store.specs.declared.store_messages.StoreMessage.{StoreMessage}
use Rattle.msg_store.specs.declared.store_messages.StoreMessage.TheVariants as message
use Rattle.object_store.specs.declared.records.ObjectRecord.{ObjectRecord}
use Rattle.request_scope.specs.Finding.{found_refusal, putting}
use Rattle.request_scope.specs.Reply.{scoped_reply}
use Rattle.request_scope.specs.Scope.{is_read_only, object_over, paying, pays}
use Rattle.request_scope.specs.declared.reply.Answered.{Answered}
use Rattle.request_scope.specs.declared.within.Scope.{Scope}
use Rattle.store_machine.specs.declared.call.Reply.{Reply}
use Rattle.store_machine.specs.declared.call.Reply.TheVariants as answer
use Rattle.store_machine.specs.declared.call.StoreCall.{StoreCall}
use Rattle.store_machine.specs.declared.call.StoreCall.TheVariants as call
use Rattle.store_machine.specs.declared.call.Verdict.{Verdict}
use Rattle.store_machine.specs.declared.call.Verdict.TheVariants as verdict
use Rattle.tx_stage.specs.Staging.{Transaction}
use Rattle.tx_stage.specs.declared.key.Key.TheVariants.{Space, Object}
use Rattle.tx_stage.specs.declared.look.Looked.{Looked}
use Rattle.tx_stage.specs.declared.look.Looked.TheVariants as look
use Rattle.tx_stage.specs.declared.look.Want.{Want}
use Rattle.tx_stage.specs.declared.look.Want.TheVariants as want
use Rattle.tx_stage.specs.declared.op.Op.{Op}
use Rattle.tx_stage.specs.declared.op.OpWhat.TheVariants.{SetObject, Gone}
use Rattle.session_rows.specs.Formats.{format_text}
use Rattle.session_rows.specs.ObjectChecks.{checked_object, named_object, session_format}
use Rattle.session_rows.specs.declared.formats.Format.{Format}
use Rattle.session_rows.specs.declared.objects.ObjectPending.{ObjectPending}
use Rattle.session_rows.specs.declared.objects.ObjectPending.TheVariants as pending

abbrev pub ObjectOutcome : Type 0
ObjectOutcome = Outcome StoreCall ObjectPending StoreMessage

abbrev pub ObjectsAnswered : Type 0
ObjectsAnswered = Answered StoreMessage

-- a reply that leaves the transaction unchanged
abbrev pub says : Option Transaction → List (Sending StoreMessage) → ObjectsAnswered
says stage sendings = record { stage = stage; sendings = sendings }

-- ---- GetDataObjects

abbrev pub get_response : List (List ℕ × DataObject) → StoreMessage
get_response objects = message.GetDataObjectsResponse (record { data_objects = objects })

-- the looks make one call
abbrev pub get_call : Format → Outcome (List (List ℕ × Want)) (List (List ℕ × Decision StoreUri)) StoreMessage → ObjectOutcome
get_call f (Replies sendings) = Replies sendings
get_call f (Calls wants kept) = Calls (call.Look (values_of wants)) (pending.Get f kept)

-- objects in a format of the session, if it is one
abbrev pub get_outcome : Option Transaction → List (List ℕ × List ℕ) → Option Format → ObjectOutcome
get_outcome stage uris None = Replies (refusal_alone NoSupportedFormats)
get_outcome stage uris (Some f) = get_call f (request_outcome (λ u. u) want.Object get_response (checked (λ s uri. (s, named_object stage uri)) nothing uris))

-- a status by its place
abbrev pub status_of : ℕ → ActiveStatusKind
status_of place = if place == 0 then Active else Inactive

-- an object as it is sent
abbrev pub object_of : ObjectRecord → DataObject
object_of r = record {
  resource = record {
    uri = plain_uri r.uri;
    alternate_uris = r.others;
    name = r.name;
    source_count = None;
    target_count = None;
    last_changed = r.changed;
    store_last_write = r.written;
    store_created = r.created;
    active_status = status_of r.active;
    custom_data = r.custom;
  };
  format = r.format;
  blob_id = None;
  payload = r.payload;
}

-- an object that exists
abbrev pub object_there : Option ObjectRecord → Decision ObjectRecord
object_there None = Refused NotFound
object_there (Some r) = Granted r

-- the object of a URI, by what was seen there. The store sees nothing else at an object's key
abbrev pub object_seen : Option Transaction → StoreUri → Option Looked → Decision ObjectRecord
object_seen stage u (Some (look.Object r)) = object_there (object_over stage u (Some r))
object_seen stage u (Some look.Missing) = object_there (object_over stage u None)
object_seen stage u (Some (look.Refused code)) = Refused code
object_seen stage u _ = Refused RequestDenied

-- an object whose payload was counted, in the format that is asked for
abbrev pub get_given : Format → Bool → ObjectRecord → Decision DataObject
get_given f false r = Refused LimitExceeded
get_given f true r = if bytes_eq r.format (format_text f) then Granted (object_of r) else Refused NoSupportedFormats

abbrev pub get_counted : Format → Scope → Decision ObjectRecord → Scope × Decision DataObject
get_counted f s (Refused code) = (s, Refused code)
get_counted f s (Granted r) = (paying s (length r.payload), get_given f (pays s (length r.payload)) r)

abbrev pub get_one : Format → Scope → List ℕ → StoreUri → List Looked → Scope × Decision DataObject
get_one f s key u found = get_counted f s (object_seen s.stage u (slice_get found 0))

-- ---- PutDataObjects

-- the lists of what became of contained objects, of which there are none
abbrev pub none_contained : PutResponse
none_contained = record {
  created_contained_object_uris = [];
  deleted_contained_object_uris = [];
  joined_contained_object_uris = [];
  unjoined_contained_object_uris = [];
}

abbrev pub put_response : List (List ℕ × PutResponse) → StoreMessage
put_response success = message.PutDataObjectsResponse (record { success = success })

-- the operation that sets an object
abbrev pub set_object : ℤ → ObjectRecord → Op
set_object at r = record { key = Object r.uri; what = SetObject r; at = at }

abbrev pub set_checked : ℤ → Decision ObjectRecord → Decision Op
set_checked at (Granted r) = Granted (set_object at r)
set_checked at (Refused code) = Refused code

-- what is looked at before an object is staged: its dataspace and itself
abbrev pub put_wants : ObjectRecord → List Want
put_wants r = want.Space r.uri.space ∷ want.Known r.uri ∷ []

abbrev pub put_call : Outcome (List (List ℕ × Op)) (List (List ℕ × Decision (Unit {0}))) StoreMessage → ObjectOutcome
put_call (Replies sendings) = Replies sendings
put_call (Calls ops kept) = Calls (call.Put ops) (pending.Put kept)

abbrev pub staged_put_call : ℤ → Outcome (List (List ℕ × List Want)) (List (List ℕ × Decision ObjectRecord)) StoreMessage → ObjectOutcome
staged_put_call at (Replies sendings) = Replies sendings
staged_put_call at (Calls wants kept) = Calls (call.Look (flat_map (λ x. x.1) wants)) (pending.StagedPut at kept)

-- outside a transaction the granted objects make one call
abbrev pub put_outside : List Format → Option (List (List ℕ)) → Option Transaction → ℤ → List (List ℕ × DataObject) → ObjectOutcome
put_outside formats types stage at objects = put_call (plain_outcome (λ o. set_checked at (checked_object formats types stage o)) put_response objects)

-- inside one they are looked for first
abbrev pub put_inside : List Format → Option (List (List ℕ)) → Option Transaction → ℤ → List (List ℕ × DataObject) → ObjectOutcome
put_inside formats types stage at objects = staged_put_call at (request_outcome (λ r. r) put_wants put_response (checked (λ s o. (s, checked_object formats types stage o)) nothing objects))

abbrev pub put_outcome : List Format → Option (List (List ℕ)) → Option Transaction → ℤ → List (List ℕ × DataObject) → ObjectOutcome
put_outcome formats types None at objects = put_outside formats types None at objects
put_outcome formats types (Some x) at objects = put_inside formats types (Some x) at objects

-- why a change of objects is refused as a whole: the transaction only reads, its keys exceed the limits, or it asks for pruning
abbrev pub prune_refusal : Bool → Option ErrorCode
prune_refusal true = Some InvalidArgument
prune_refusal false = None

abbrev pub change_refusal : {A : Type 0} → Option Transaction → Bool → List (List ℕ × A) → Option ErrorCode
change_refusal stage prune items = if is_read_only stage then Some RequestDenied else first_cause (keys_refusal items) (prune_refusal prune)

-- what the store decided about a put
abbrev pub put_verdict : Verdict → Decision PutResponse
put_verdict verdict.Accepted = Granted none_contained
put_verdict (verdict.Refused code) = Refused code

-- the same with its key
abbrev pub put_decided : List ℕ × Verdict → Decision PutResponse
put_decided found = put_verdict found.1

abbrev pub staged_put : ℤ → Scope → List ℕ → ObjectRecord → List Looked → Scope × Decision PutResponse
staged_put at s key r found =
    let o = set_object at r in
    (putting s (Space r.uri.space) o found, granted_unless (found_refusal s.stage (Space r.uri.space) o found) none_contained)

-- ---- DeleteDataObjects

abbrev pub delete_response : List (List ℕ × ArrayOfString) → StoreMessage
delete_response uris = message.DeleteDataObjectsResponse (record { deleted_uris = uris })

-- the operation that removes an object
abbrev pub remove_object : ℤ → StoreUri → Op
remove_object at u = record { key = Object u; what = Gone; at = at }

-- the canonical URI of a removed object
abbrev pub removed : StoreUri → ArrayOfString
removed u = record { values = plain_uri u ∷ [] }

abbrev pub delete_call : Outcome (List (List ℕ × Op)) (List (List ℕ × Decision StoreUri)) StoreMessage → ObjectOutcome
delete_call (Replies sendings) = Replies sendings
delete_call (Calls ops kept) = Calls (call.Put ops) (pending.Delete kept)

abbrev pub staged_delete_call : ℤ → Outcome (List (List ℕ × Want)) (List (List ℕ × Decision StoreUri)) StoreMessage → ObjectOutcome
staged_delete_call at (Replies sendings) = Replies sendings
staged_delete_call at (Calls wants kept) = Calls (call.Look (values_of wants)) (pending.StagedDelete at kept)

-- outside a transaction the removals make one call
abbrev pub delete_outside : Option Transaction → ℤ → List (List ℕ × List ℕ) → ObjectOutcome
delete_outside stage at uris = delete_call (request_outcome (λ u. u) (remove_object at) delete_response (checked (λ s uri. (s, named_object stage uri)) nothing uris))

-- inside one the objects are looked for first
abbrev pub delete_inside : Option Transaction → ℤ → List (List ℕ × List ℕ) → ObjectOutcome
delete_inside stage at uris = staged_delete_call at (request_outcome (λ u. u) want.Known delete_response (checked (λ s uri. (s, named_object stage uri)) nothing uris))

abbrev pub delete_outcome : Option Transaction → ℤ → List (List ℕ × List ℕ) → ObjectOutcome
delete_outcome None at uris = delete_outside None at uris
delete_outcome (Some x) at uris = delete_inside (Some x) at uris

-- what the store decided about a removal
abbrev pub delete_decided : StoreUri → Verdict → Decision ArrayOfString
delete_decided u verdict.Accepted = Granted (removed u)
delete_decided u (verdict.Refused code) = Refused code

-- without a verdict it is denied
abbrev pub delete_found : StoreUri → List (List ℕ × Verdict) → Decision ArrayOfString
delete_found u [] = Refused RequestDenied
delete_found u (x ∷ xs) = delete_decided u x.1

abbrev pub delete_one : Unit {0} → List ℕ → StoreUri → List (List ℕ × Verdict) → Unit {0} × Decision ArrayOfString
delete_one s key u found = (s, delete_found u found)

abbrev pub staged_delete : ℤ → Scope → List ℕ → StoreUri → List Looked → Scope × Decision ArrayOfString
staged_delete at s key u found =
    let o = remove_object at u in
    (putting s (Object u) o found, granted_unless (found_refusal s.stage (Object u) o found) (removed u))

-- ---- what comes of a message

-- a chunk counts as itself only if no joiner took it
abbrev pub object_outcome : List Format → Option (List (List ℕ)) → Option Transaction → ℤ → StoreMessage → ObjectOutcome
object_outcome formats types stage at (message.GetDataObjects m) = unless_refused (keys_refusal m.uris) (get_outcome stage m.uris (session_format formats m.format))
object_outcome formats types stage at (message.PutDataObjects m) = unless_refused (change_refusal stage m.prune_contained_objects m.data_objects) (put_outcome formats types stage at m.data_objects)
object_outcome formats types stage at (message.DeleteDataObjects m) = unless_refused (change_refusal stage m.prune_contained_objects m.uris) (delete_outcome stage at m.uris)
object_outcome formats types stage at (message.GetDataObjectsResponse m) = Replies (refusal_alone InvalidMessageType)
object_outcome formats types stage at (message.Chunk m) = Replies (refusal_alone InvalidMessageType)
object_outcome formats types stage at (message.PutDataObjectsResponse m) = Replies (refusal_alone InvalidMessageType)
object_outcome formats types stage at (message.DeleteDataObjectsResponse m) = Replies (refusal_alone InvalidMessageType)

-- ---- what comes of the store's answer to its call; an answer that does not belong to the call has no reply

-- the answer has verdicts
abbrev pub verdicts_reply : Option Transaction → ObjectPending → List (List ℕ × Verdict) → ObjectsAnswered
verdicts_reply stage (pending.Put items) verdicts = says stage (plain_reply put_decided put_response items verdicts)
verdicts_reply stage (pending.Delete items) verdicts = says stage (request_reply delete_response (finished delete_one 1 nothing items verdicts))
verdicts_reply stage (pending.Get f items) verdicts = says stage []
verdicts_reply stage (pending.StagedPut at items) verdicts = says stage []
verdicts_reply stage (pending.StagedDelete at items) verdicts = says stage []

-- the answer has looks
abbrev pub looks_reply : Option Transaction → ObjectPending → List Looked → ObjectsAnswered
looks_reply stage (pending.Get f items) looks = scoped_reply (get_one f) 1 get_response stage items looks
looks_reply stage (pending.StagedPut at items) looks = scoped_reply (staged_put at) 2 put_response stage items looks
looks_reply stage (pending.StagedDelete at items) looks = scoped_reply (staged_delete at) 1 delete_response stage items looks
looks_reply stage (pending.Put items) looks = says stage []
looks_reply stage (pending.Delete items) looks = says stage []

-- the reply to a request of which this is kept, once the store has answered, and what it leaves of the open transaction
abbrev pub object_reply : Option Transaction → ObjectPending → Reply → ObjectsAnswered
object_reply stage kept (answer.Verdicts verdicts) = verdicts_reply stage kept verdicts
object_reply stage kept (answer.Looked looks) = looks_reply stage kept looks
object_reply stage kept answer.JournalFull = says stage (refusal_alone LimitExceeded)
object_reply stage kept _ = says stage []
