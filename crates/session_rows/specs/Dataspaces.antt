-- The requests of the Dataspace protocol.
use Rattle.std.specs.Prelude.{ℕ, Bool, true, false, List, [], ◌∷◌, Option, Some, None, nat_lt, length, map, if◌then◌else◌}
use Rattle.avro_bin.specs.Plain.{plain}
use Rattle.etp_schema.specs.Form.{named_form}
use Rattle.etp_schema.specs.DataValue.{data_value_form}
use Rattle.etp_values.specs.Uri.{plain_uri}
use Rattle.etp_values.specs.declared.code.ErrorCode.{ErrorCode}
use Rattle.etp_values.specs.declared.code.ErrorCode.TheVariants.{InvalidMessageType, InvalidState, RequestDenied, SizeExceeded, LimitExceeded}
use Rattle.etp_values.specs.declared.data.DataValue.{DataValue}
use Rattle.keyed_requests.specs.Keys.{keys_refusal}
use Rattle.keyed_requests.specs.Plain.{plain_outcome, plain_reply}
use Rattle.keyed_requests.specs.Sending.{refusal_alone, reply_alone, unless_refused}
use Rattle.keyed_requests.specs.declared.keys.Decision.{Decision}
use Rattle.keyed_requests.specs.declared.keys.Decision.TheVariants.{Granted, Refused}
use Rattle.keyed_requests.specs.declared.sending.Outcome.{Outcome}
use Rattle.keyed_requests.specs.declared.sending.Outcome.TheVariants.{Replies, Calls}
use Rattle.keyed_requests.specs.declared.sending.Sending.{Sending}
use Rattle.msg_core.specs.declared.dataspace_messages.Dataspace.{Dataspace}
use Rattle.msg_core.specs.declared.dataspace_messages.DataspaceMessage.{DataspaceMessage}
use Rattle.msg_core.specs.declared.dataspace_messages.DataspaceMessage.TheVariants as message
use Rattle.object_store.specs.declared.records.SpaceRecord.{SpaceRecord}
use Rattle.store_machine.specs.declared.call.Reply.{Reply}
use Rattle.store_machine.specs.declared.call.Reply.TheVariants as answer
use Rattle.store_machine.specs.declared.call.SpacePut.{SpacePut}
use Rattle.store_machine.specs.declared.call.StoreCall.{StoreCall}
use Rattle.store_machine.specs.declared.call.StoreCall.TheVariants as call
use Rattle.store_machine.specs.declared.call.Verdict.{Verdict}
use Rattle.store_machine.specs.declared.call.Verdict.TheVariants as verdict
use Rattle.session_rows.specs.Spaces.{space_path}
use Rattle.session_rows.specs.declared.dataspaces.DataspacePending.{DataspacePending}
use Rattle.session_rows.specs.declared.dataspaces.DataspacePending.TheVariants as pending

-- ---- one key

-- the default dataspace can't be changed
abbrev pub path_granted : List ℕ → Decision (List ℕ)
path_granted [] = Refused RequestDenied
path_granted (c ∷ cs) = Granted (c ∷ cs)

abbrev pub changeable : Decision (List ℕ) → Decision (List ℕ)
changeable (Granted path) = path_granted path
changeable (Refused code) = Refused code

-- the path of a dataspace that can be changed, by its URI's text
abbrev pub changeable_path : List ℕ → Decision (List ℕ)
changeable_path text = changeable (space_path text)

-- how many bytes custom data has on the wire
abbrev pub custom_size : List (List ℕ × DataValue) → ℕ
custom_size custom = length (plain ((named_form data_value_form).as_value custom))

-- custom data that is longer than a dataspace's may be
abbrev pub is_custom_large : List (List ℕ × DataValue) → Bool
is_custom_large custom = nat_lt 16384 (custom_size custom)

-- a put of this path, if there is one, with this custom data
abbrev pub put_granted : List (List ℕ × DataValue) → Decision (List ℕ) → Decision SpacePut
put_granted custom (Granted path) = if is_custom_large custom then Refused SizeExceeded else Granted (record { path = path; custom = custom })
put_granted custom (Refused code) = Refused code

-- a dataspace to be put: by its URI and its custom data alone
abbrev pub checked_put : Dataspace → Decision SpacePut
checked_put d = put_granted d.custom_data (changeable_path d.uri)

-- what the store decided about a key: the empty text, or a refusal
abbrev pub decided : Verdict → Decision (List ℕ)
decided verdict.Accepted = Granted []
decided (verdict.Refused code) = Refused code

-- what the store decided about a key, with the key
abbrev pub decided_found : List ℕ × Verdict → Decision (List ℕ)
decided_found found = decided found.1

-- ---- the responses

-- a dataspace as it is listed
abbrev pub dataspace_of : SpaceRecord → Dataspace
dataspace_of r = record { uri = plain_uri (record { space = r.path; object = None }); path = r.path; store_last_write = r.written; store_created = r.created; custom_data = r.custom }

-- the response with these dataspaces
abbrev pub listed : List SpaceRecord → DataspaceMessage
listed records = message.GetDataspacesResponse (record { dataspaces = map dataspace_of records })

-- the response to PutDataspaces
abbrev pub put_response : List (List ℕ × List ℕ) → DataspaceMessage
put_response success = message.PutDataspacesResponse (record { success = success })

-- the response to DeleteDataspaces
abbrev pub delete_response : List (List ℕ × List ℕ) → DataspaceMessage
delete_response success = message.DeleteDataspacesResponse (record { success = success })

-- ---- what comes of a message

abbrev pub DataspaceOutcome : Type 0
DataspaceOutcome = Outcome StoreCall DataspacePending DataspaceMessage

-- the granted puts make one call
abbrev pub put_call : Outcome (List (List ℕ × SpacePut)) (List (List ℕ × Decision (Unit {0}))) DataspaceMessage → DataspaceOutcome
put_call (Replies sendings) = Replies sendings
put_call (Calls items kept) = Calls (call.PutSpaces items) (pending.Put kept)

-- the granted removals make one call
abbrev pub delete_call : Outcome (List (List ℕ × List ℕ)) (List (List ℕ × Decision (Unit {0}))) DataspaceMessage → DataspaceOutcome
delete_call (Replies sendings) = Replies sendings
delete_call (Calls items kept) = Calls (call.DropSpaces items) (pending.Delete kept)

-- a change of dataspaces isn't accepted while a transaction is open
abbrev pub change_refusal : {A : Type 0} → Bool → List (List ℕ × A) → Option ErrorCode
change_refusal true items = Some InvalidState
change_refusal false items = keys_refusal items

-- what comes of a message, by whether a transaction is open
abbrev pub dataspace_outcome : DataspaceMessage → Bool → DataspaceOutcome
dataspace_outcome (message.GetDataspaces m) in_transaction = Calls (call.Spaces m.store_last_write_filter) pending.Get
dataspace_outcome (message.PutDataspaces m) in_transaction = unless_refused (change_refusal in_transaction m.dataspaces) (put_call (plain_outcome checked_put put_response m.dataspaces))
dataspace_outcome (message.DeleteDataspaces m) in_transaction = unless_refused (change_refusal in_transaction m.uris) (delete_call (plain_outcome changeable_path delete_response m.uris))
dataspace_outcome (message.GetDataspacesResponse m) in_transaction = Replies (refusal_alone InvalidMessageType)
dataspace_outcome (message.PutDataspacesResponse m) in_transaction = Replies (refusal_alone InvalidMessageType)
dataspace_outcome (message.DeleteDataspacesResponse m) in_transaction = Replies (refusal_alone InvalidMessageType)

-- ---- what comes of the store's answer to its call; an answer that does not belong to the call has no reply

-- the answer has verdicts
abbrev pub verdicts_reply : DataspacePending → List (List ℕ × Verdict) → List (Sending DataspaceMessage)
verdicts_reply pending.Get verdicts = []
verdicts_reply (pending.Put items) verdicts = plain_reply decided_found put_response items verdicts
verdicts_reply (pending.Delete items) verdicts = plain_reply decided_found delete_response items verdicts

-- the answer has dataspaces
abbrev pub records_reply : DataspacePending → List SpaceRecord → List (Sending DataspaceMessage)
records_reply pending.Get records = reply_alone (listed records)
records_reply (pending.Put items) records = []
records_reply (pending.Delete items) records = []

-- the reply to a request of which this is kept, once the store has answered
abbrev pub dataspace_reply : DataspacePending → Reply → List (Sending DataspaceMessage)
dataspace_reply pending (answer.Spaces records) = records_reply pending records
dataspace_reply pending (answer.Verdicts verdicts) = verdicts_reply pending verdicts
dataspace_reply pending answer.JournalFull = refusal_alone LimitExceeded
dataspace_reply pending _ = []
