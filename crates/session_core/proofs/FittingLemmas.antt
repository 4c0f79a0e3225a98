-- The store's answer fits what a session kept for its call.
use Rattle.std.specs.Prelude.{ℕ, suc, ℤ, pos, Bool, true, false, cond, not, ◌==◌, ◌&&◌, ◌*◌, ◌-◌, List, [], ◌∷◌, ◌≡◌, Option, Some, None, Result, Ok, Err, IsSomeAnd, MatchOption, is_some, ◌+◌, drop, length, min, nat_lt, if◌then◌else◌, refl}
use Rattle.std.specs.List.{flat_map}
use Rattle.std.specs.Map.{keys_of, values_of}
use Rattle.std.specs.Option.{option_map}
use Rattle.std.specs.Str.{bytes_eq}
use Rattle.std.proofs.Common.{ap, ◌∙◌, arith}
use Rattle.array_rows.specs.Arrays as arrays
use Rattle.array_rows.specs.Changing.{change_response, checked_made, checked_patch, op_of, patch_array, put_wants, set_array}
use Rattle.array_rows.specs.Changing.{checked_put as checked_put_array}
use Rattle.array_rows.specs.Naming.{named_array, named_region}
use Rattle.array_rows.specs.Reading.{arrays_response, metadata_response, slice_want, slices_response}
use Rattle.array_rows.specs.declared.arrays.ArrayPending.{ArrayPending}
use Rattle.array_rows.specs.declared.arrays.ArrayPending.TheVariants as keeps_array
use Rattle.array_rows.specs.declared.changing.ArrayChange.{ArrayChange}
use Rattle.array_rows.specs.declared.changing.ArrayChange.TheVariants as change
use Rattle.array_rows.specs.declared.changing.ArrayPatch.{ArrayPatch}
use Rattle.array_rows.specs.declared.changing.ArrayPut.{ArrayPut}
use Rattle.array_rows.specs.declared.naming.Region.{Region}
use Rattle.array_store.specs.declared.key.ArrayKey.{ArrayKey}
use Rattle.server_config.specs.declared.config.Config.{Config}
use Rattle.channel_rows.specs.Loads as loads
use Rattle.channel_rows.specs.Opens.{are_open}
use Rattle.channel_rows.specs.Points.{ends_of, loaded}
use Rattle.channel_rows.specs.Subscriptions as subscribes
use Rattle.channel_rows.specs.declared.loads.LoadPending.TheVariants as keeps_load
use Rattle.channel_rows.specs.declared.subscriptions.SubscribePending.TheVariants as keeps_subscription
use Rattle.channel_store.specs.Channels.{Channel}
use Rattle.channel_store.specs.Refusals.{append_refusal, channel_at, replace_refusal}
use Rattle.channel_store.specs.declared.change.ChannelChange.{ChannelChange}
use Rattle.channel_store.specs.declared.subscription.Sub.{Sub}
use Rattle.etp_values.specs.declared.code.ErrorCode.{ErrorCode}
use Rattle.etp_values.specs.declared.code.ErrorCode.TheVariants as code
use Rattle.etp_values.specs.declared.point.ChannelPoint.{ChannelPoint}
use Rattle.etp_values.specs.declared.uri.StoreUri.{StoreUri}
use Rattle.etp_frame.specs.Header.{acknowledge, has_flag}
use Rattle.etp_frame.specs.Joining.{Awaited, joins}
use Rattle.etp_frame.specs.declared.header.Header.{Header}
use Rattle.etp_frame.specs.declared.joining.Joined.{Joined}
use Rattle.etp_frame.specs.declared.joining.Joined.TheVariants.{More, Whole}
use Rattle.etp_frame.specs.declared.joining.JoinError.{JoinError}
use Rattle.etp_frame.specs.declared.message.Message.{Message}
use Rattle.etp_frame.specs.declared.message.Message.TheVariants as message
use Rattle.keyed_requests.specs.declared.keys.Decision.{Decision}
use Rattle.keyed_requests.specs.declared.keys.Decision.TheVariants.{Granted, Refused}
use Rattle.keyed_requests.specs.declared.sending.Outcome.TheVariants.{Replies, Calls}
use Rattle.keyed_requests.specs.Keyed.{called, checked, granted, kept, sent}
use Rattle.keyed_requests.specs.Keys.{keys_refusal}
use Rattle.keyed_requests.specs.Plain.{nothing, plain_outcome}
use Rattle.keyed_requests.specs.Sending.{refusal_alone, unless_refused}
use Rattle.keyed_requests.specs.Uris.{object_uri}
use Rattle.msg_channel.specs.declared.channel_data_load_messages.ChannelDataLoadMessage.{ChannelDataLoadMessage}
use Rattle.msg_channel.specs.declared.channel_data_load_messages.ChannelDataLoadMessage.TheVariants as load
use Rattle.msg_channel.specs.declared.channel_data_load_messages.ReplaceRange.{ReplaceRange}
use Rattle.msg_channel.specs.declared.channel_subscribe_messages.ChannelSubscribeMessage.{ChannelSubscribeMessage}
use Rattle.msg_channel.specs.declared.channel_subscribe_messages.ChannelSubscribeMessage.TheVariants as subscribe
use Rattle.msg_core.specs.declared.core_messages.CoreMessage.{CoreMessage}
use Rattle.msg_core.specs.declared.core_messages.CoreMessage.TheVariants as core
use Rattle.msg_core.specs.declared.core_messages.RequestSession.{RequestSession}
use Rattle.msg_core.specs.declared.dataspace_messages.DataspaceMessage.{DataspaceMessage}
use Rattle.msg_core.specs.declared.dataspace_messages.DataspaceMessage.TheVariants as space
use Rattle.msg_core.specs.declared.transaction_messages.StartTransaction.{StartTransaction}
use Rattle.msg_core.specs.declared.transaction_messages.TransactionMessage.{TransactionMessage}
use Rattle.msg_core.specs.declared.transaction_messages.TransactionMessage.TheVariants as transacts
use Rattle.msg_store.specs.declared.array_records.DataArrayIdentifier.{DataArrayIdentifier}
use Rattle.msg_store.specs.declared.array_records.GetDataSubarraysType.{GetDataSubarraysType}
use Rattle.msg_store.specs.declared.array_records.PutDataArraysType.{PutDataArraysType}
use Rattle.msg_store.specs.declared.array_records.PutDataSubarraysType.{PutDataSubarraysType}
use Rattle.msg_store.specs.declared.array_records.PutUninitializedDataArrayType.{PutUninitializedDataArrayType}
use Rattle.msg_store.specs.declared.data_array_messages.DataArrayMessage.{DataArrayMessage}
use Rattle.msg_store.specs.declared.data_array_messages.DataArrayMessage.TheVariants as array
use Rattle.msg_store.specs.declared.store_messages.DataObject.{DataObject}
use Rattle.msg_store.specs.declared.store_messages.StoreMessage.{StoreMessage}
use Rattle.msg_store.specs.declared.store_messages.StoreMessage.TheVariants as object
use Rattle.object_store.specs.declared.records.ObjectRecord.{ObjectRecord}
use Rattle.request_scope.specs.Scope.{is_read_only}
use Rattle.session_rows.specs.Dataspaces.{DataspaceOutcome, change_refusal, changeable_path, checked_put, dataspace_outcome, delete_call, delete_response, put_call, put_response}
use Rattle.session_rows.specs.ObjectChecks.{checked_object, named_object, session_format}
use Rattle.session_rows.specs.Objects as objects
use Rattle.session_rows.specs.Opening.{opening_of}
use Rattle.session_rows.specs.Transactions as transactions
use Rattle.session_rows.specs.declared.dataspaces.DataspacePending.TheVariants as keeps
use Rattle.session_rows.specs.declared.formats.Format.{Format}
use Rattle.session_rows.specs.declared.opening.Opening.{Opening}
use Rattle.session_rows.specs.declared.objects.ObjectPending.{ObjectPending}
use Rattle.session_rows.specs.declared.opening.Opening.TheVariants as opens
use Rattle.session_rows.specs.declared.transactions.TransactionPending.TheVariants as commits
use Rattle.store_machine.proofs.CutLemmas.{names-cuts}
use Rattle.store_machine.proofs.JudgingLemmas.{names-verdicts}
use Rattle.store_machine.proofs.ReadingLemmas.{names-metas}
use Rattle.store_machine.specs.Answers.{answer, answered, commit_reply, has_room, ranges_after, seen_after, starts_after, verdicts, wanted, written}
use Rattle.store_machine.specs.Channels.{channels_of, code_of}
use Rattle.store_machine.specs.Clash.{conflict}
use Rattle.store_machine.specs.Cuts.{cut_verdicts}
use Rattle.store_machine.specs.History.{DropSpace, Operate, changes_of, set_space, value_after}
use Rattle.store_machine.specs.News.{dues, joined, lag, news_after, news_by, taken}
use Rattle.store_machine.specs.Reads.{range_reply, ranged, whole_room}
use Rattle.store_machine.specs.Starts.{begun, room_behind, started}
use Rattle.store_machine.specs.declared.call.Cutting.{Cutting}
use Rattle.store_machine.specs.declared.call.RangeAsk.{RangeAsk}
use Rattle.store_machine.specs.declared.call.Reply.{Reply}
use Rattle.store_machine.specs.declared.call.Reply.TheVariants as reply
use Rattle.store_machine.specs.declared.call.Reply.TheVariants.{JournalFull, Verdicts}
use Rattle.store_machine.specs.declared.call.SpacePut.{SpacePut}
use Rattle.store_machine.specs.declared.call.StartAsk.{StartAsk}
use Rattle.store_machine.specs.declared.call.StoreCall.{StoreCall}
use Rattle.store_machine.specs.declared.call.StoreCall.TheVariants as call
use Rattle.store_machine.specs.declared.journal.Entry.{Entry}
use Rattle.subscribe_core.specs.Subscriptions.{Subbed, asked_from}
use Rattle.tx_stage.specs.Looks.{given, key_of, looks_within, payload_of, seen_of}
use Rattle.tx_stage.specs.Staging.{Transaction}
use Rattle.tx_stage.specs.declared.key.Key.{Key}
use Rattle.tx_stage.specs.declared.look.Want.{Want}
use Rattle.tx_stage.specs.declared.look.Want.TheVariants as want
use Rattle.tx_stage.specs.declared.op.Op.{Op}
use Rattle.tx_stage.specs.declared.value.Value.{Value}
use Rattle.session_core.specs.declared.state.Request.{Request}
use Rattle.session_core.specs.declared.state.Arrived.{Arrived}
use Rattle.session_core.specs.declared.state.Arrived.TheVariants as arrives
use Rattle.session_core.specs.declared.state.Live.{Live}
use Rattle.session_core.specs.declared.state.Live.TheVariants as live
use Rattle.session_core.specs.declared.state.Pending.TheVariants as pending
use Rattle.session_core.specs.declared.state.Phase.{Phase}
use Rattle.session_core.specs.declared.state.Phase.TheVariants as phase
use Rattle.session_core.specs.State.{State}
use Rattle.session_core.specs.Arriving.{arrived, request_of}
use Rattle.session_core.specs.Fitting.{AnswersFit, Fits, FitsArrays, FitsDataspaces, FitsLoads, FitsObjects, FitsPoints, FitsSubscriptions, FitsTransactions}
use Rattle.session_core.specs.Machine.{Taken, accepting, arrays_kept, by_event, by_phase, may_acknowledge, no_call, objects_kept, on_arrays, on_core, on_join, on_joined, on_message, on_objects, on_outcome, on_ping, on_poll, on_protocol, on_received, on_request_session, on_row, on_store, on_whole, opened, protocol_refusal, put_request, refuses}
use Rattle.session_core.specs.Replies.{receipt}
use Rattle.session_core.specs.Run.{takes}
use Rattle.session_core.specs.Sending.{said}

-- ---- the keys of a call are those that were granted, and the verdicts are on those

keys-sent : {A B K : Type 0} (keep : A → K) (send : A → B) (items : List (List ℕ × Decision A)) → keys_of (sent send items) ≡ keys_of (granted (kept keep items))
keys-sent keep send [] = refl
keys-sent keep send ((k, Granted a) ∷ xs) = ap (λ keys. k ∷ keys) (keys-sent keep send xs)
keys-sent keep send ((k, Refused code) ∷ xs) = keys-sent keep send xs

keys-started : (cs : List Channel) (room : _) (items : List (List ℕ × StartAsk)) → keys_of (started cs room items) ≡ keys_of items
keys-started cs room [] = refl
keys-started cs room (x ∷ xs) = ap (λ keys. x.0 ∷ keys) (keys-started cs (room_behind room (begun (channel_at cs x.1.channel) room x.1.start)) xs)

-- ---- there are as many looks as keys that were granted, or twice as many

values-length : {A : Type 0} (xs : List (List ℕ × A)) → length (values_of xs) ≡ length xs
values-length [] = refl
values-length (x ∷ xs) = ap suc (values-length xs)

sent-length : {A B K : Type 0} (keep : A → K) (send : A → B) (items : List (List ℕ × Decision A)) → length (sent send items) ≡ length (granted (kept keep items))
sent-length keep send [] = refl
sent-length keep send ((k, Granted a) ∷ xs) = ap suc (sent-length keep send xs)
sent-length keep send ((k, Refused code) ∷ xs) = sent-length keep send xs

-- two wants for each key
joined-length : {A : Type 0} (first second : A → Want) (items : List (List ℕ × Decision A)) → length (flat_map (λ x. x.1) (sent (λ a. first a ∷ second a ∷ []) items)) ≡ 2 * length (granted (kept (λ a. a) items))
joined-length first second [] = refl
joined-length first second ((k, Granted a) ∷ xs) = let e = joined-length first second xs in omega arith
joined-length first second ((k, Refused code) ∷ xs) = joined-length first second xs

looks-within-length : (state : Key → Option Value) (room : ℕ) (ws : List Want) → length (looks_within state room ws) ≡ length ws
looks-within-length state room [] = refl
looks-within-length state room (w ∷ ws) = ap suc (looks-within-length state (room - payload_of (given room (seen_of w (state (key_of w))))) ws)

looks-length : (h : List Entry) (ws : List Want) → length (seen_after h ws) ≡ length ws
unfolding seen_after
looks-length h ws = looks-within-length (λ key. value_after key h) 67108864 ws

-- ---- a message of Core leaves what is kept

open_keeps : (r : Request) (o : Opening) (s : State) → (opened r o s).pending ≡ s.pending
open_keeps r (opens.Refused c) s = refl
open_keeps r (opens.Opened accepted formats limit m) s = refl

request_keeps : (live : Live) (r : Request) (moment : ℤ) (m : RequestSession) (s : State) → (on_request_session live r moment m s).pending ≡ s.pending
request_keeps live.Waiting r moment m s = open_keeps r (opening_of s.config s.number moment m) s
request_keeps live.Open r moment m s = refl

ping_keeps : (live : Live) (r : Request) (moment : ℤ) (s : State) → (on_ping live r moment s).pending ≡ s.pending
ping_keeps live.Waiting r moment s = refl
ping_keeps live.Open r moment s = refl

core_keeps : (live : Live) (r : Request) (moment : ℤ) (m : CoreMessage) (s : State) → (on_core live r moment m s).pending ≡ s.pending
core_keeps live r moment (core.RequestSession m) s = request_keeps live r moment m s
core_keeps live r moment (core.OpenSession m) s = refl
core_keeps live r moment (core.CloseSession m) s = refl
core_keeps live r moment (core.Ping m) s = ping_keeps live r moment s
core_keeps live r moment (core.Pong m) s = refl
core_keeps live r moment (core.ProtocolException m) s = refl
core_keeps live r moment (core.Acknowledge m) s = refl

-- ---- an answer after a history
module _ (config : Config) (h : List Entry) where
  -- ---- Dataspace
  abbrev DataspacesFit : DataspaceOutcome → Type 0
  DataspacesFit (Replies sendings) = Unit {0}
  DataspacesFit (Calls c p) = FitsDataspaces p (answer config h c).reply

  unless_spaces : (why : Option ErrorCode) (o : DataspaceOutcome) → DataspacesFit o → DataspacesFit (unless_refused why o)
  unless_spaces (Some code) o fits = tt
  unless_spaces None o fits = fits

  put_or_full : (room : Bool) (items : List (List ℕ × Decision (Unit {0}))) (puts : List (List ℕ × SpacePut)) → keys_of puts ≡ keys_of (granted items)
      → FitsDataspaces (keeps.Put items) (cond room (Verdicts (verdicts (set_space (pos 0)) (changes_of h) puts)) JournalFull)
  put_or_full true items puts same = names-verdicts (set_space (pos 0)) (changes_of h) puts ∙ same
  put_or_full false items puts same = tt

  delete_or_full : (room : Bool) (items : List (List ℕ × Decision (Unit {0}))) (paths : List (List ℕ × List ℕ)) → keys_of paths ≡ keys_of (granted items)
      → FitsDataspaces (keeps.Delete items) (cond room (Verdicts (verdicts DropSpace (changes_of h) paths)) JournalFull)
  delete_or_full true items paths same = names-verdicts DropSpace (changes_of h) paths ∙ same
  delete_or_full false items paths same = tt

  put : (items : List (List ℕ × Decision (Unit {0}))) (puts : List (List ℕ × SpacePut)) → keys_of puts ≡ keys_of (granted items) → DataspacesFit (put_call (called put_response items puts))
  put items [] same = tt
  put items (x ∷ xs) same = put_or_full (has_room config h (wanted config h (call.PutSpaces (x ∷ xs)))) items (x ∷ xs) same

  delete : (items : List (List ℕ × Decision (Unit {0}))) (paths : List (List ℕ × List ℕ)) → keys_of paths ≡ keys_of (granted items) → DataspacesFit (delete_call (called delete_response items paths))
  delete items [] same = tt
  delete items (x ∷ xs) same = delete_or_full (has_room config h (wanted config h (call.DropSpaces (x ∷ xs)))) items (x ∷ xs) same

  dataspaces : (m : DataspaceMessage) (in_transaction : Bool) → DataspacesFit (dataspace_outcome m in_transaction)
  dataspaces (space.GetDataspaces x) b = tt
  dataspaces (space.PutDataspaces x) b =
      let items = checked (λ s d. (s, checked_put d)) nothing x.dataspaces in
      unless_spaces (change_refusal b x.dataspaces) (put_call (plain_outcome checked_put put_response x.dataspaces))
      (put (kept (λ put. nothing) items) (sent (λ put. put) items) (keys-sent (λ put. nothing) (λ put. put) items))
  dataspaces (space.DeleteDataspaces x) b =
      let items = checked (λ s uri. (s, changeable_path uri)) nothing x.uris in
      unless_spaces (change_refusal b x.uris) (delete_call (plain_outcome changeable_path delete_response x.uris))
      (delete (kept (λ path. nothing) items) (sent (λ path. path) items) (keys-sent (λ path. nothing) (λ path. path) items))
  dataspaces (space.GetDataspacesResponse x) b = tt
  dataspaces (space.PutDataspacesResponse x) b = tt
  dataspaces (space.DeleteDataspacesResponse x) b = tt

  -- ---- operations of objects and arrays
  abbrev OpsFit : {K : Type 0} → List (List ℕ × Decision K) → Reply → Type 0
  OpsFit items (reply.Verdicts vs) = keys_of vs ≡ keys_of (granted items)
  OpsFit items reply.JournalFull = Unit {0}
  OpsFit items _ = ⊥

  ops_or_full : {K : Type 0} (room : Bool) (items : List (List ℕ × Decision K)) (ops : List (List ℕ × Op)) → keys_of ops ≡ keys_of (granted items)
      → OpsFit items (cond room (Verdicts (verdicts Operate (changes_of h) ops)) JournalFull)
  ops_or_full true items ops same = names-verdicts Operate (changes_of h) ops ∙ same
  ops_or_full false items ops same = tt

  -- ---- Store
  abbrev ObjectsFit : objects.ObjectOutcome → Type 0
  ObjectsFit (Replies sendings) = Unit {0}
  ObjectsFit (Calls c p) = FitsObjects p (answer config h c).reply

  unless_objects : (why : Option ErrorCode) (o : objects.ObjectOutcome) → ObjectsFit o → ObjectsFit (unless_refused why o)
  unless_objects (Some code) o fits = tt
  unless_objects None o fits = fits

  got : (f : Format) (items : List (List ℕ × Decision StoreUri)) (wants : List (List ℕ × Want)) → length wants ≡ length (granted items) → ObjectsFit (objects.get_call f (called objects.get_response items wants))
  got f items [] same = tt
  got f items (x ∷ xs) same = looks-length h (values_of (x ∷ xs)) ∙ values-length (x ∷ xs) ∙ same

  get_objects : (stage : Option Transaction) (uris : List (List ℕ × List ℕ)) (f : Option Format) → ObjectsFit (objects.get_outcome stage uris f)
  get_objects stage uris None = tt
  get_objects stage uris (Some f) =
      let items = checked (λ s uri. (s, named_object stage uri)) nothing uris in
      got f (kept (λ u. u) items) (sent want.Object items) (sent-length (λ u. u) want.Object items)

  put_called_fits : (items : List (List ℕ × Decision (Unit {0}))) (ops : List (List ℕ × Op)) → keys_of ops ≡ keys_of (granted items) → ObjectsFit (objects.put_call (called objects.put_response items ops))
  put_called_fits items [] same = tt
  put_called_fits items (x ∷ xs) same = ops_or_full (has_room config h (wanted config h (call.Put (x ∷ xs)))) items (x ∷ xs) same

  staged_put_fits : (at : ℤ) (items : List (List ℕ × Decision ObjectRecord)) (wants : List (List ℕ × List Want)) → length (flat_map (λ x. x.1) wants) ≡ 2 * length (granted items) → ObjectsFit (objects.staged_put_call at (called objects.put_response items wants))
  staged_put_fits at items [] same = tt
  staged_put_fits at items (x ∷ xs) same = looks-length h (flat_map (λ x. x.1) (x ∷ xs)) ∙ same

  put_objects : (formats : List Format) (types : Option (List (List ℕ))) (stage : Option Transaction) (at : ℤ) (xs : List (List ℕ × DataObject)) → ObjectsFit (objects.put_outcome formats types stage at xs)
  put_objects formats types None at xs =
      let items = checked (λ s o. (s, objects.set_checked at (checked_object formats types None o))) nothing xs in
      put_called_fits (kept (λ o. nothing) items) (sent (λ o. o) items) (keys-sent (λ o. nothing) (λ o. o) items)
  put_objects formats types (Some x) at xs =
      let items = checked (λ s o. (s, checked_object formats types (Some x) o)) nothing xs in
      staged_put_fits at (kept (λ r. r) items) (sent objects.put_wants items) (joined-length (λ r. want.Space r.uri.space) (λ r. want.Known r.uri) items)

  delete_called_fits : (items : List (List ℕ × Decision StoreUri)) (ops : List (List ℕ × Op)) → keys_of ops ≡ keys_of (granted items) → ObjectsFit (objects.delete_call (called objects.delete_response items ops))
  delete_called_fits items [] same = tt
  delete_called_fits items (x ∷ xs) same = ops_or_full (has_room config h (wanted config h (call.Put (x ∷ xs)))) items (x ∷ xs) same

  staged_delete_fits : (at : ℤ) (items : List (List ℕ × Decision StoreUri)) (wants : List (List ℕ × Want)) → length wants ≡ length (granted items) → ObjectsFit (objects.staged_delete_call at (called objects.delete_response items wants))
  staged_delete_fits at items [] same = tt
  staged_delete_fits at items (x ∷ xs) same = looks-length h (values_of (x ∷ xs)) ∙ values-length (x ∷ xs) ∙ same

  delete_objects : (stage : Option Transaction) (at : ℤ) (uris : List (List ℕ × List ℕ)) → ObjectsFit (objects.delete_outcome stage at uris)
  delete_objects None at uris =
      let items = checked (λ s uri. (s, named_object None uri)) nothing uris in
      delete_called_fits (kept (λ u. u) items) (sent (objects.remove_object at) items) (keys-sent (λ u. u) (objects.remove_object at) items)
  delete_objects (Some x) at uris =
      let items = checked (λ s uri. (s, named_object (Some x) uri)) nothing uris in
      staged_delete_fits at (kept (λ u. u) items) (sent want.Known items) (sent-length (λ u. u) want.Known items)

  object_message : (formats : List Format) (types : Option (List (List ℕ))) (stage : Option Transaction) (at : ℤ) (m : StoreMessage) → ObjectsFit (objects.object_outcome formats types stage at m)
  object_message formats types stage at (object.GetDataObjects m) = unless_objects (keys_refusal m.uris) (objects.get_outcome stage m.uris (session_format formats m.format)) (get_objects stage m.uris (session_format formats m.format))
  object_message formats types stage at (object.PutDataObjects m) = unless_objects (objects.change_refusal stage m.prune_contained_objects m.data_objects) (objects.put_outcome formats types stage at m.data_objects) (put_objects formats types stage at m.data_objects)
  object_message formats types stage at (object.DeleteDataObjects m) = unless_objects (objects.change_refusal stage m.prune_contained_objects m.uris) (objects.delete_outcome stage at m.uris) (delete_objects stage at m.uris)
  object_message formats types stage at (object.GetDataObjectsResponse m) = tt
  object_message formats types stage at (object.Chunk m) = tt
  object_message formats types stage at (object.PutDataObjectsResponse m) = tt
  object_message formats types stage at (object.DeleteDataObjectsResponse m) = tt

  -- ---- DataArray
  abbrev ArraysFit : arrays.ArrayOutcome → Type 0
  ArraysFit (Replies sendings) = Unit {0}
  ArraysFit (Calls c p) = FitsArrays p (answer config h c).reply

  unless_arrays : (why : Option ErrorCode) (o : arrays.ArrayOutcome) → ArraysFit o → ArraysFit (unless_refused why o)
  unless_arrays (Some code) o fits = tt
  unless_arrays None o fits = fits

  arrays_got : (items : List (List ℕ × Decision ArrayKey)) (wants : List (List ℕ × Want)) → length wants ≡ length (granted items) → ArraysFit (arrays.looks_called keeps_array.Get (called arrays_response items wants))
  arrays_got items [] same = tt
  arrays_got items (x ∷ xs) same = looks-length h (values_of (x ∷ xs)) ∙ values-length (x ∷ xs) ∙ same

  slices_got : (items : List (List ℕ × Decision (List ℤ))) (wants : List (List ℕ × Want)) → length wants ≡ length (granted items) → ArraysFit (arrays.looks_called keeps_array.Slice (called slices_response items wants))
  slices_got items [] same = tt
  slices_got items (x ∷ xs) same = looks-length h (values_of (x ∷ xs)) ∙ values-length (x ∷ xs) ∙ same

  staged_slices_got : (items : List (List ℕ × Decision Region)) (wants : List (List ℕ × Want)) → length wants ≡ length (granted items) → ArraysFit (arrays.looks_called keeps_array.StagedSlice (called slices_response items wants))
  staged_slices_got items [] same = tt
  staged_slices_got items (x ∷ xs) same = looks-length h (values_of (x ∷ xs)) ∙ values-length (x ∷ xs) ∙ same

  shapes_got : (items : List (List ℕ × Decision (Unit {0}))) (wants : List (List ℕ × Want)) → length wants ≡ length (granted items) → ArraysFit (arrays.looks_called keeps_array.Shape (called metadata_response items wants))
  shapes_got items [] same = tt
  shapes_got items (x ∷ xs) same = looks-length h (values_of (x ∷ xs)) ∙ values-length (x ∷ xs) ∙ same

  staged_shapes_got : (items : List (List ℕ × Decision ArrayKey)) (wants : List (List ℕ × Want)) → length wants ≡ length (granted items) → ArraysFit (arrays.looks_called keeps_array.StagedShape (called metadata_response items wants))
  staged_shapes_got items [] same = tt
  staged_shapes_got items (x ∷ xs) same = looks-length h (values_of (x ∷ xs)) ∙ values-length (x ∷ xs) ∙ same

  staged_patches_got : (at : ℤ) (items : List (List ℕ × Decision ArrayPatch)) (wants : List (List ℕ × Want)) → length wants ≡ length (granted items) → ArraysFit (arrays.looks_called (keeps_array.StagedPatch at) (called (change_response change.Patch) items wants))
  staged_patches_got at items [] same = tt
  staged_patches_got at items (x ∷ xs) same = looks-length h (values_of (x ∷ xs)) ∙ values-length (x ∷ xs) ∙ same

  ops_called_fits : (what : ArrayChange) (items : List (List ℕ × Decision (Unit {0}))) (ops : List (List ℕ × Op)) → keys_of ops ≡ keys_of (granted items) → ArraysFit (arrays.ops_call what (called (change_response what) items ops))
  ops_called_fits what items [] same = tt
  ops_called_fits what items (x ∷ xs) same = ops_or_full (has_room config h (wanted config h (call.Put (x ∷ xs)))) items (x ∷ xs) same

  joined_called_fits : (what : ArrayChange) (at : ℤ) (items : List (List ℕ × Decision ArrayPut)) (wants : List (List ℕ × List Want)) → length (flat_map (λ x. x.1) wants) ≡ 2 * length (granted items) → ArraysFit (arrays.joined_called (keeps_array.StagedPut what at) (called (change_response what) items wants))
  joined_called_fits what at items [] same = tt
  joined_called_fits what at items (x ∷ xs) same = looks-length h (flat_map (λ x. x.1) (x ∷ xs)) ∙ same

  get_arrays : (stage : Option Transaction) (ids : List (List ℕ × DataArrayIdentifier)) → ArraysFit (arrays.get_outcome stage ids)
  get_arrays stage ids =
      let items = checked (λ s id. (s, named_array stage id)) nothing ids in
      arrays_got (kept (λ k. k) items) (sent want.Array items) (sent-length (λ k. k) want.Array items)

  get_slices : (stage : Option Transaction) (xs : List (List ℕ × GetDataSubarraysType)) → ArraysFit (arrays.slice_outcome stage xs)
  get_slices None xs =
      let items = checked (λ s x. (s, named_region None x)) nothing xs in
      slices_got (kept (λ r. r.counts) items) (sent slice_want items) (sent-length (λ r. r.counts) slice_want items)
  get_slices (Some t) xs =
      let items = checked (λ s x. (s, named_region (Some t) x)) nothing xs in
      staged_slices_got (kept (λ r. r) items) (sent (λ r. want.Array r.key) items) (sent-length (λ r. r) (λ r. want.Array r.key) items)

  get_metadata : (stage : Option Transaction) (ids : List (List ℕ × DataArrayIdentifier)) → ArraysFit (arrays.metadata_outcome stage ids)
  get_metadata None ids =
      let items = checked (λ s id. (s, named_array None id)) nothing ids in
      shapes_got (kept (λ k. nothing) items) (sent want.Shape items) (sent-length (λ k. nothing) want.Shape items)
  get_metadata (Some t) ids =
      let items = checked (λ s id. (s, named_array (Some t) id)) nothing ids in
      staged_shapes_got (kept (λ k. k) items) (sent want.Array items) (sent-length (λ k. k) want.Array items)

  put_arrays : (stage : Option Transaction) (at : ℤ) (xs : List (List ℕ × PutDataArraysType)) → ArraysFit (arrays.put_outcome stage at xs)
  put_arrays None at xs =
      let items = checked (λ s x. (s, op_of (set_array at) (checked_put_array None x))) nothing xs in
      ops_called_fits change.Put (kept (λ o. nothing) items) (sent (λ o. o) items) (keys-sent (λ o. nothing) (λ o. o) items)
  put_arrays (Some t) at xs =
      let items = checked (λ s x. (s, checked_put_array (Some t) x)) nothing xs in
      joined_called_fits change.Put at (kept (λ x. x) items) (sent put_wants items) (joined-length (λ x. want.Known x.key.uri) (λ x. want.Shape x.key) items)

  make_arrays : (stage : Option Transaction) (at : ℤ) (xs : List (List ℕ × PutUninitializedDataArrayType)) → ArraysFit (arrays.make_outcome stage at xs)
  make_arrays None at xs =
      let items = checked (checked_made None) 0 xs in
      ops_called_fits change.Make (kept (λ x. nothing) items) (sent (set_array at) items) (keys-sent (λ x. nothing) (set_array at) items)
  make_arrays (Some t) at xs =
      let items = checked (checked_made (Some t)) 0 xs in
      joined_called_fits change.Make at (kept (λ x. x) items) (sent put_wants items) (joined-length (λ x. want.Known x.key.uri) (λ x. want.Shape x.key) items)

  patch_arrays : (stage : Option Transaction) (at : ℤ) (xs : List (List ℕ × PutDataSubarraysType)) → ArraysFit (arrays.patch_outcome stage at xs)
  patch_arrays None at xs =
      let items = checked (λ s x. (s, op_of (patch_array at) (checked_patch None x))) nothing xs in
      ops_called_fits change.Patch (kept (λ o. nothing) items) (sent (λ o. o) items) (keys-sent (λ o. nothing) (λ o. o) items)
  patch_arrays (Some t) at xs =
      let items = checked (λ s x. (s, checked_patch (Some t) x)) nothing xs in
      staged_patches_got at (kept (λ x. x) items) (sent (λ x. want.Array x.key) items) (sent-length (λ x. x) (λ x. want.Array x.key) items)

  array_message : (stage : Option Transaction) (at : ℤ) (m : DataArrayMessage) → ArraysFit (arrays.array_outcome stage at m)
  array_message stage at (array.GetDataArrays m) = unless_arrays (keys_refusal m.data_arrays) (arrays.get_outcome stage m.data_arrays) (get_arrays stage m.data_arrays)
  array_message stage at (array.GetDataSubarrays m) = unless_arrays (keys_refusal m.data_subarrays) (arrays.slice_outcome stage m.data_subarrays) (get_slices stage m.data_subarrays)
  array_message stage at (array.GetDataArrayMetadata m) = unless_arrays (keys_refusal m.data_arrays) (arrays.metadata_outcome stage m.data_arrays) (get_metadata stage m.data_arrays)
  array_message stage at (array.PutDataArrays m) = unless_arrays (arrays.change_refusal stage m.data_arrays) (arrays.put_outcome stage at m.data_arrays) (put_arrays stage at m.data_arrays)
  array_message stage at (array.PutDataSubarrays m) = unless_arrays (arrays.change_refusal stage m.data_subarrays) (arrays.patch_outcome stage at m.data_subarrays) (patch_arrays stage at m.data_subarrays)
  array_message stage at (array.PutUninitializedDataArrays m) = unless_arrays (arrays.change_refusal stage m.data_arrays) (arrays.make_outcome stage at m.data_arrays) (make_arrays stage at m.data_arrays)
  array_message stage at (array.GetDataArraysResponse m) = tt
  array_message stage at (array.GetDataArrayMetadataResponse m) = tt
  array_message stage at (array.GetDataSubarraysResponse m) = tt
  array_message stage at (array.PutDataArraysResponse m) = tt
  array_message stage at (array.PutDataSubarraysResponse m) = tt
  array_message stage at (array.PutUninitializedDataArraysResponse m) = tt

  -- ---- Transaction
  abbrev TransactionsFit : transactions.TransactionOutcome → Type 0
  TransactionsFit (Replies sendings) = Unit {0}
  TransactionsFit (Calls c p) = FitsTransactions p (answer config h c).reply

  commit_or_full : (room : Bool) (id : List ℕ) (place : Option ℕ) → FitsTransactions (commits.Commit id) (cond room (commit_reply place) JournalFull)
  commit_or_full true id None = tt
  commit_or_full true id (Some place) = tt
  commit_or_full false id place = tt

  commit_fits : (id : List ℕ) (x : Transaction) → TransactionsFit (transactions.commit id x)
  commit_fits id x = commit_or_full (has_room config h (wanted config h (call.Commit (transactions.to_commit x)))) id (conflict x.touched h)

  start_fits : (instance : List ℕ) (number starts : ℕ) (read_only : Bool) (paths : Decision (List (List ℕ))) → TransactionsFit (transactions.start_with instance number starts read_only paths).outcome
  start_fits instance number starts read_only (Refused code) = tt
  start_fits instance number starts read_only (Granted ps) = tt

  start_fits_unless : (many : Bool) (instance : List ℕ) (number starts : ℕ) (read_only : Bool) (paths : Decision (List (List ℕ)))
      → TransactionsFit (if many then transactions.refuses None starts code.LimitExceeded else transactions.start_with instance number starts read_only paths).outcome
  start_fits_unless true instance number starts read_only paths = tt
  start_fits_unless false instance number starts read_only paths = start_fits instance number starts read_only paths

  started_fits : (instance : List ℕ) (number : ℕ) (stage : Option Transaction) (starts : ℕ) (m : StartTransaction) → TransactionsFit (transactions.start instance number stage starts m).outcome
  started_fits instance number (Some x) starts m = tt
  started_fits instance number None starts m = start_fits_unless (nat_lt 1024 (length m.dataspace_uris)) instance number starts m.read_only (transactions.space_paths m.dataspace_uris)

  end_fits : (same : Bool) (x : Transaction) (starts : ℕ) (o : transactions.TransactionOutcome) → TransactionsFit o
      → TransactionsFit (if same then transactions.leaves None starts o else transactions.refuses (Some x) starts code.InvalidArgument).outcome
  end_fits true x starts o fits = fits
  end_fits false x starts o fits = tt

  ends_fit : (stage : Option Transaction) (starts : ℕ) (id : List ℕ) (outcome : Transaction → transactions.TransactionOutcome) → ((x : Transaction) → TransactionsFit (outcome x))
      → TransactionsFit (transactions.ends stage starts id outcome).outcome
  ends_fit None starts id outcome fits = tt
  ends_fit (Some x) starts id outcome fits = end_fits (bytes_eq x.id id) x starts (outcome x) (fits x)

  transaction_message : (instance : List ℕ) (number : ℕ) (stage : Option Transaction) (starts : ℕ) (m : TransactionMessage) → TransactionsFit (transactions.transaction_request instance number stage starts m).outcome
  transaction_message instance number stage starts (transacts.StartTransaction m) = started_fits instance number stage starts m
  transaction_message instance number stage starts (transacts.CommitTransaction m) = ends_fit stage starts m.transaction_uuid (transactions.commit m.transaction_uuid) (commit_fits m.transaction_uuid)
  transaction_message instance number stage starts (transacts.RollbackTransaction m) = ends_fit stage starts m.transaction_uuid (transactions.rollback m.transaction_uuid) (λ x. tt)
  transaction_message instance number stage starts (transacts.StartTransactionResponse m) = tt
  transaction_message instance number stage starts (transacts.CommitTransactionResponse m) = tt
  transaction_message instance number stage starts (transacts.RollbackTransactionResponse m) = tt

  -- ---- ChannelDataLoad
  abbrev LoadsFit : loads.LoadOutcome → Type 0
  LoadsFit (Replies sendings) = Unit {0}
  LoadsFit (Calls c p) = FitsLoads p (answer config h c).reply

  unless_loads : (why : Option ErrorCode) (o : loads.LoadOutcome) → LoadsFit o → LoadsFit (unless_refused why o)
  unless_loads (Some code) o fits = tt
  unless_loads None o fits = fits

  open_fits : (items : List (List ℕ × Decision (Unit {0}))) (uris : List (List ℕ × StoreUri)) → keys_of uris ≡ keys_of (granted items) → LoadsFit (loads.open_call (called loads.open_response items uris))
  open_fits items [] same = tt
  open_fits items (x ∷ xs) same = names-metas (channels_of config h) (x ∷ xs) ∙ same

  cut_or_full : (room : Bool) (at : ℤ) (items : List (List ℕ × Decision (Unit {0}))) (cuts : List (List ℕ × Cutting)) → keys_of cuts ≡ keys_of (granted items)
      → FitsLoads (keeps_load.Truncate at items) (cond room (Verdicts (cut_verdicts (channels_of config h) [] cuts)) JournalFull)
  cut_or_full true at items cuts same = names-cuts (channels_of config h) [] cuts ∙ same
  cut_or_full false at items cuts same = tt

  truncate_fits : (at : ℤ) (items : List (List ℕ × Decision (Unit {0}))) (cuts : List (List ℕ × Cutting)) → keys_of cuts ≡ keys_of (granted items) → LoadsFit (loads.truncate_call at (called loads.truncate_response items cuts))
  truncate_fits at items [] same = tt
  truncate_fits at items (x ∷ xs) same = cut_or_full (has_room config h (wanted config h (call.Truncate (x ∷ xs)))) at items (x ∷ xs) same

  points_or_full : (room : Bool) (why : Option ErrorCode) → FitsPoints (cond room (written why) JournalFull)
  points_or_full true None = tt
  points_or_full true (Some code) = tt
  points_or_full false why = tt

  append_fits : (d : Decision (List ChannelPoint)) → LoadsFit (loads.load_called d)
  append_fits (Refused code) = tt
  append_fits (Granted []) = tt
  append_fits (Granted (p ∷ ps)) = points_or_full (has_room config h (wanted config h (call.Append (p ∷ ps)))) (option_map code_of (append_refusal (channels_of config h) (p ∷ ps)))

  replace_called_fits : (at : ℤ) (channels : List ℤ) (ends : ℤ × ℤ) (d : Decision (List ChannelPoint)) → LoadsFit (loads.replace_call at channels ends d)
  replace_called_fits at channels ends (Refused code) = tt
  replace_called_fits at channels ends (Granted ps) =
      points_or_full (has_room config h (wanted config h (call.Replace channels ends.0 ends.1 ps))) (option_map code_of (replace_refusal (channels_of config h) channels ends.0 ends.1 ps))

  replace_within_fits : (opens : List Bool) (at : ℤ) (m : ReplaceRange) (ends : Option (ℤ × ℤ)) → LoadsFit (loads.replace_within opens at m ends)
  replace_within_fits opens at m None = tt
  replace_within_fits opens at m (Some ends) = replace_called_fits at m.channel_ids ends (loaded opens None m.payload)

  -- a replacement without channels, or of some that are not all open, is refused
  abbrev replaced : Bool → Bool → List Bool → ℤ → ReplaceRange → loads.LoadOutcome
  replaced none some_closed opens at m =
      if none then Replies (refusal_alone code.InvalidArgument)
      else if some_closed then Replies (refusal_alone code.NotFound)
      else loads.replace_within opens at m (ends_of m.changed_interval)

  replace_fits : (none some_closed : Bool) (opens : List Bool) (at : ℤ) (m : ReplaceRange) → LoadsFit (replaced none some_closed opens at m)
  replace_fits true some_closed opens at m = tt
  replace_fits false true opens at m = tt
  replace_fits false false opens at m = replace_within_fits opens at m (ends_of m.changed_interval)

  leaving_fits : (why : Option ErrorCode) (opens : List Bool) (l : loads.Loading) → LoadsFit l.outcome → LoadsFit (loads.unless_leaving why opens l).outcome
  leaving_fits (Some code) opens l fits = tt
  leaving_fits None opens l fits = fits

  load_message : (opens : List Bool) (at : ℤ) (m : ChannelDataLoadMessage) → LoadsFit (loads.load_outcome opens at m).outcome
  load_message opens at (load.OpenChannels m) =
      let items = checked (λ s uri. (s, object_uri uri)) nothing m.uris in
      unless_loads (keys_refusal m.uris) (loads.open_outcome m.uris) (open_fits (kept (λ uri. nothing) items) (sent (λ uri. uri) items) (keys-sent (λ uri. nothing) (λ uri. uri) items))
  load_message opens at (load.CloseChannels m) = leaving_fits (keys_refusal m.id) opens (loads.close_outcome opens m.id) tt
  load_message opens at (load.LoadChannelData m) = append_fits (loaded opens None m.payload)
  load_message opens at (load.ReplaceRange m) = replace_fits (length m.channel_ids == 0) (not (are_open opens m.channel_ids)) opens at m
  load_message opens at (load.TruncateChannels m) =
      let items = checked (λ s x. (s, loads.checked_cutting opens x)) nothing m.channels in
      unless_loads (keys_refusal m.channels) (loads.truncate_outcome opens at m.channels) (truncate_fits at (kept (λ cut. nothing) items) (sent (λ cut. cut) items) (keys-sent (λ cut. nothing) (λ cut. cut) items))
  load_message opens at (load.OpenChannelsResponse m) = tt
  load_message opens at (load.ChannelsClosed m) = tt
  load_message opens at (load.ReplaceRangeResponse m) = tt
  load_message opens at (load.TruncateChannelsResponse m) = tt

  abbrev SubscriptionsFit : subscribes.SubscribeOutcome → Type 0
  SubscriptionsFit (Replies sendings) = Unit {0}
  SubscriptionsFit (Calls c p) = FitsSubscriptions p (answer config h c).reply

  unless_subscriptions : (why : Option ErrorCode) (o : subscribes.SubscribeOutcome) → SubscriptionsFit o → SubscriptionsFit (unless_refused why o)
  unless_subscriptions (Some code) o fits = tt
  unless_subscriptions None o fits = fits

  metadata_fits : (items : List (List ℕ × Decision (Unit {0}))) (uris : List (List ℕ × StoreUri)) → keys_of uris ≡ keys_of (granted items) → SubscriptionsFit (subscribes.metadata_call (called subscribes.metadata_response items uris))
  metadata_fits items [] same = tt
  metadata_fits items (x ∷ xs) same = names-metas (channels_of config h) (x ∷ xs) ∙ same

  subscribe_fits : (items : List (List ℕ × Decision StartAsk)) (asks : List (List ℕ × StartAsk)) → keys_of asks ≡ keys_of (granted items) → SubscriptionsFit (subscribes.subscribe_call (called subscribes.subscribe_response items asks))
  unfolding starts_after
  subscribe_fits items [] same = tt
  subscribe_fits items (x ∷ xs) same = keys-started (channels_of config h) whole_room (x ∷ xs) ∙ same

  ranged_fits : (r : Result (List ChannelPoint) ErrorCode) → FitsSubscriptions keeps_subscription.Ranges (range_reply r)
  ranged_fits (Ok items) = tt
  ranged_fits (Err code) = tt

  ranges_fit : (asks : List RangeAsk) → SubscriptionsFit (Calls (call.Range asks) keeps_subscription.Ranges)
  unfolding ranges_after
  ranges_fit asks = ranged_fits (ranged (channels_of config h) whole_room asks)

  stopping_fits : (why : Option ErrorCode) (v : Subbed) (l : subscribes.Subscribing) → SubscriptionsFit l.outcome → SubscriptionsFit (subscribes.unless_leaving why v l).outcome
  stopping_fits (Some code) v l fits = tt
  stopping_fits None v l fits = fits

  subscribe_message : (v : Subbed) (m : ChannelSubscribeMessage) → SubscriptionsFit (subscribes.subscribe_outcome v m).outcome
  subscribe_message v (subscribe.GetChannelMetadata m) =
      let items = checked (λ s uri. (s, object_uri uri)) nothing m.uris in
      unless_subscriptions (keys_refusal m.uris) (subscribes.metadata_outcome m.uris) (metadata_fits (kept (λ uri. nothing) items) (sent (λ uri. uri) items) (keys-sent (λ uri. nothing) (λ uri. uri) items))
  subscribe_message v (subscribe.SubscribeChannels m) =
      let items = checked (subscribes.subscribe_one v.subs) subscribes.none_named m.channels in
      unless_subscriptions (keys_refusal m.channels) (subscribes.begin_outcome v.subs m.channels) (subscribe_fits (kept (λ a. a) items) (sent (λ a. a) items) (keys-sent (λ a. a) (λ a. a) items))
  subscribe_message v (subscribe.UnsubscribeChannels m) = stopping_fits (keys_refusal m.channel_ids) v (subscribes.stop_outcome v m.channel_ids) tt
  subscribe_message v (subscribe.GetRanges m) = unless_subscriptions (subscribes.ranges_refusal m.channel_ranges) (Calls (call.Range (subscribes.asks_of m.channel_ranges)) keeps_subscription.Ranges) (ranges_fit (subscribes.asks_of m.channel_ranges))
  subscribe_message v (subscribe.GetChannelMetadataResponse m) = tt
  subscribe_message v (subscribe.ChannelData m) = tt
  subscribe_message v (subscribe.RangeReplaced m) = tt
  subscribe_message v (subscribe.SubscriptionsStopped m) = tt
  subscribe_message v (subscribe.GetRangesResponse m) = tt
  subscribe_message v (subscribe.SubscribeChannelsResponse m) = tt
  subscribe_message v (subscribe.ChannelsTruncated m) = tt

  -- ---- a half step, of a session that had this in hand before
  abbrev TakenFits : State → Taken → Type 0
  TakenFits before t = MatchOption t.call (t.state.pending ≡ before.pending) (λ c. IsSomeAnd t.state.pending (Fits (answered config h c).reply))

  of_dataspaces : (r : Request) (o : DataspaceOutcome) (s : State) → DataspacesFit o → TakenFits s (on_outcome message.Dataspace pending.Dataspaces r o s)
  unfolding answered
  of_dataspaces r (Replies sendings) s fits = refl
  of_dataspaces r (Calls c p) s fits = fits

  objects_kept_fit : (stage : Option Transaction) (r : Request) (c : StoreCall) (p : ObjectPending) → FitsObjects p (answer config h c).reply → Fits (answered config h c).reply (objects_kept stage r c p)
  unfolding answered
  objects_kept_fit None r c p fits = fits
  objects_kept_fit (Some x) r c p fits = fits

  of_objects : (r : Request) (o : objects.ObjectOutcome) (s : State) → ObjectsFit o → TakenFits s (on_objects r o s)
  of_objects r (Replies sendings) s fits = refl
  of_objects r (Calls c p) s fits = objects_kept_fit s.stage r c p fits

  arrays_kept_fit : (stage : Option Transaction) (r : Request) (c : StoreCall) (p : ArrayPending) → FitsArrays p (answer config h c).reply → Fits (answered config h c).reply (arrays_kept stage r c p)
  unfolding answered
  arrays_kept_fit None r c p fits = fits
  arrays_kept_fit (Some x) r c p fits = fits

  of_arrays : (r : Request) (o : arrays.ArrayOutcome) (s : State) → ArraysFit o → TakenFits s (on_arrays r o s)
  of_arrays r (Replies sendings) s fits = refl
  of_arrays r (Calls c p) s fits = arrays_kept_fit s.stage r c p fits

  of_transactions : (r : Request) (o : transactions.TransactionOutcome) (s : State) → TransactionsFit o → TakenFits s (on_outcome message.Transaction pending.Transactions r o s)
  unfolding answered
  of_transactions r (Replies sendings) s fits = refl
  of_transactions r (Calls c p) s fits = fits

  of_loads : (r : Request) (o : loads.LoadOutcome) (s : State) → LoadsFit o → TakenFits s (on_outcome message.ChannelDataLoad pending.Loads r o s)
  unfolding answered
  of_loads r (Replies sendings) s fits = refl
  of_loads r (Calls c p) s fits = fits

  of_subscriptions : (r : Request) (o : subscribes.SubscribeOutcome) (s : State) → SubscriptionsFit o → TakenFits s (on_outcome message.ChannelSubscribe pending.Subscriptions r o s)
  unfolding answered
  of_subscriptions r (Replies sendings) s fits = refl
  of_subscriptions r (Calls c p) s fits = fits

  of_whole : (r : Request) (moment : ℤ) (m : Message) (s : State) → TakenFits s (on_whole r moment m s)
  of_whole r moment (message.Store m) s = of_objects r (objects.object_outcome s.formats s.config.types s.stage moment m) s (object_message s.formats s.config.types s.stage moment m)
  of_whole r moment _ s = refl

  of_joined : (hd : Header) (moment : ℤ) (r : Request) (j : Result (Joined × Option Awaited) JoinError) (s : State) → TakenFits s (on_joined hd moment r j s)
  of_joined hd moment r (Err e) s = refl
  of_joined hd moment r (Ok (More, w)) s = refl
  of_joined hd moment r (Ok (Whole m, w)) s = of_whole r moment m (record s { joiner = w })

  of_put : (only : Bool) (hd : Header) (moment : ℤ) (m : StoreMessage) (s : State) → TakenFits s (if only then no_call (refuses (request_of hd) code.RequestDenied s) else on_join hd moment m s)
  of_put true hd moment m s = refl
  of_put false hd moment m s = of_joined hd moment (put_request hd s.joiner) (joins s.joiner hd (message.Store m)) s

  of_store : (hd : Header) (moment : ℤ) (m : StoreMessage) (s : State) → TakenFits s (on_store hd moment m s)
  of_store hd moment (object.PutDataObjects m) s = of_put (is_read_only s.stage) hd moment (object.PutDataObjects m) s
  of_store hd moment (object.Chunk m) s = of_joined hd moment (put_request hd s.joiner) (joins s.joiner hd (message.Store (object.Chunk m))) s
  of_store hd moment m s = of_whole (request_of hd) moment (message.Store m) s

  of_row : (hd : Header) (moment : ℤ) (m : Message) (s : State) → TakenFits s (on_row hd moment m s)
  of_row hd moment (message.Dataspace m) s = of_dataspaces (request_of hd) (dataspace_outcome m (is_some s.stage)) s (dataspaces m (is_some s.stage))
  of_row hd moment (message.Store m) s = of_store hd moment m s
  of_row hd moment (message.DataArray m) s = of_arrays (request_of hd) (arrays.array_outcome s.stage moment m) s (array_message s.stage moment m)
  of_row hd moment (message.Transaction m) s =
      let t = transactions.transaction_request s.config.instance s.number s.stage s.starts m in
      of_transactions (request_of hd) t.outcome (record s { stage = t.stage; starts = t.starts }) (transaction_message s.config.instance s.number s.stage s.starts m)
  of_row hd moment (message.ChannelSubscribe m) s = of_subscriptions (request_of hd) (subscribes.subscribe_outcome s.subs m).outcome (record s { subs = (subscribes.subscribe_outcome s.subs m).subs }) (subscribe_message s.subs m)
  of_row hd moment (message.ChannelDataLoad m) s = of_loads (request_of hd) (loads.load_outcome s.opens moment m).outcome (record s { opens = (loads.load_outcome s.opens moment m).opens }) (load_message s.opens moment m)
  of_row hd moment _ s = refl

  of_protocol : (why : Option ErrorCode) (hd : Header) (moment : ℤ) (m : Message) (s : State) → TakenFits s (on_protocol why hd moment m s)
  of_protocol (Some c) hd moment m s = refl
  of_protocol None hd moment m s = of_row hd moment m s

  of_message : (live : Live) (hd : Header) (moment : ℤ) (m : Message) (s : State) → TakenFits s (on_message live hd moment m s)
  of_message live hd moment (message.Core m) s = core_keeps live (request_of hd) moment m s
  of_message live hd moment m s = of_protocol (protocol_refusal live s.accepted hd.protocol) hd moment m s

  of_received : (p : Phase) (hd : Header) (moment : ℤ) (m : Message) (s : State) → TakenFits s (on_received p hd moment m s)
  of_received (phase.Live live) hd moment m s = of_message live hd moment m s
  of_received (phase.Ended e) hd moment m s = refl

  -- what is kept before a receipt is kept after it
  of_acknowledged : (wanted : Bool) (hd : Header) (moment : ℤ) (m : Message) (s : State) →
      let t = if wanted then said (request_of hd) (receipt ∷ []) s else s in TakenFits s (on_received t.phase hd moment m t)
  of_acknowledged true hd moment m s = let t = said (request_of hd) (receipt ∷ []) s in of_received t.phase hd moment m t
  of_acknowledged false hd moment m s = of_received s.phase hd moment m s

  of_poll : (o : Option StoreCall) (s : State) → MatchOption o (Unit {0}) (λ c. FitsSubscriptions keeps_subscription.News (answer config h c).reply) → TakenFits s (on_poll o s)
  unfolding answered
  of_poll None s fits = refl
  of_poll (Some c) s fits = fits

  news_by_lag : (late : Bool) (mark upto lag : ℕ) (changes : List ChannelChange) → FitsSubscriptions keeps_subscription.News (cond late (reply.News mark lag []) (reply.News upto lag changes))
  news_by_lag true mark upto lag changes = tt
  news_by_lag false mark upto lag changes = tt

  news_of_dues : (limit from mark : ℕ) (ds : List (List ChannelChange)) → FitsSubscriptions keeps_subscription.News (news_by limit from mark ds)
  news_of_dues limit from mark ds = news_by_lag (nat_lt limit (lag ds)) mark (from + length (taken 0 0 ds)) (lag ds) (joined (taken 0 0 ds))

  news_fits : (subs : List Sub) (front : ℕ) (cursor : Option ℕ) → MatchOption (subscribes.news_from subs front cursor) (Unit {0}) (λ c. FitsSubscriptions keeps_subscription.News (answer config h c).reply)
  unfolding news_after
  news_fits subs front None = tt
  news_fits subs front (Some cursor) = later (nat_lt cursor front)
    where
      later : (b : Bool) → MatchOption (if b then Some (call.News cursor subs) else None) (Unit {0}) (λ c. FitsSubscriptions keeps_subscription.News (answer config h c).reply)
      later true = news_of_dues config.lag (min cursor (length h)) (length h) (dues config subs (min cursor (length h)) (drop (min cursor (length h)) h))
      later false = tt

  of_event : (live : Live) (a : Arrived) (s : State) → TakenFits s (by_event live a s)
  of_event live (arrives.Unreadable c) s = refl
  of_event live (arrives.Stale r) s = refl
  of_event live (arrives.Refused r c) s = refl
  of_event live (arrives.Fresh hd moment m) s = of_acknowledged (has_flag hd.flags acknowledge && may_acknowledge m) hd moment m (accepting (request_of hd) s)
  of_event live (arrives.Polled front) s = of_poll (subscribes.news_call s.subs front) s (news_fits s.subs.subs front (asked_from s.subs))

  of_phase : (p : Phase) (a : Arrived) (s : State) → TakenFits s (by_phase p a s)
  of_phase (phase.Live live) a s = of_event live a s
  of_phase (phase.Ended e) a s = refl

pub answers_fit : AnswersFit
unfolding takes
answers_fit config h s e = of_phase config h s.phase (arrived s.last_id e) s
