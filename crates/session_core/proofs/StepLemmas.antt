-- What holds for every half step; for the crates above too.
use Rattle.std.specs.Prelude.{ℕ, ℤ, Bool, true, false, length, List, ◌≡◌, Option, Some, None, Result, Ok, Err, is_some, nat_lt, if◌then◌else◌, IfSome, IfOk, refl}
use Rattle.std.specs.Str.{bytes_eq}
use Rattle.std.proofs.Common.{subst, sym}
use Rattle.array_rows.specs.Arrays as arrays
use Rattle.array_rows.specs.declared.arrays.ArrayPending.{ArrayPending}
use Rattle.array_rows.specs.declared.changing.ArrayChange.{ArrayChange}
use Rattle.channel_rows.specs.Loads as loads
use Rattle.channel_rows.specs.Subscriptions as subscribes
use Rattle.channel_store.specs.declared.subscription.Sub.{Sub}
use Rattle.etp_values.specs.declared.code.ErrorCode.{ErrorCode}
use Rattle.etp_values.specs.declared.code.ErrorCode.TheVariants as code
use Rattle.etp_values.specs.declared.memory.NoMemory.{NoMemory}
use Rattle.etp_values.specs.declared.uri.StoreUri.{StoreUri}
use Rattle.etp_frame.specs.Joining.{Awaited, joins}
use Rattle.etp_frame.specs.declared.header.Header.{Header}
use Rattle.etp_frame.specs.declared.joining.Joined.{Joined}
use Rattle.etp_frame.specs.declared.joining.Joined.TheVariants.{More, Whole}
use Rattle.etp_frame.specs.declared.joining.JoinError.{JoinError}
use Rattle.etp_frame.specs.declared.message.Message.{Message}
use Rattle.etp_frame.specs.declared.message.Message.TheVariants as message
use Rattle.keyed_requests.specs.Plain.{plain_outcome}
use Rattle.keyed_requests.specs.Sending.{unless_refused}
use Rattle.keyed_requests.specs.declared.keys.Decision.{Decision}
use Rattle.keyed_requests.specs.declared.keys.Decision.TheVariants.{Granted, Refused}
use Rattle.keyed_requests.specs.declared.sending.Outcome.{Outcome}
use Rattle.keyed_requests.specs.declared.sending.Outcome.TheVariants.{Replies, Calls}
use Rattle.msg_core.specs.declared.dataspace_messages.DataspaceMessage.{DataspaceMessage}
use Rattle.msg_core.specs.declared.dataspace_messages.DataspaceMessage.TheVariants as space
use Rattle.msg_core.specs.declared.transaction_messages.StartTransaction.{StartTransaction}
use Rattle.msg_core.specs.declared.transaction_messages.TransactionMessage.{TransactionMessage}
use Rattle.msg_core.specs.declared.transaction_messages.TransactionMessage.TheVariants as transacts
use Rattle.msg_store.specs.declared.array_records.DataArrayIdentifier.{DataArrayIdentifier}
use Rattle.msg_store.specs.declared.array_records.GetDataSubarraysType.{GetDataSubarraysType}
use Rattle.msg_store.specs.declared.array_records.PutDataArraysType.{PutDataArraysType}
use Rattle.msg_store.specs.declared.array_records.PutDataSubarraysType.{PutDataSubarraysType}
use Rattle.msg_store.specs.declared.array_records.PutUninitializedDataArrayType.{PutUninitializedDataArrayType}
use Rattle.msg_store.specs.declared.data_array_messages.DataArrayMessage.{DataArrayMessage}
use Rattle.msg_store.specs.declared.data_array_messages.DataArrayMessage.TheVariants as array
use Rattle.msg_store.specs.declared.store_messages.DataObject.{DataObject}
use Rattle.msg_store.specs.declared.store_messages.StoreMessage.{StoreMessage}
use Rattle.msg_store.specs.declared.store_messages.StoreMessage.TheVariants as object
use Rattle.object_store.specs.declared.records.ObjectRecord.{ObjectRecord}
use Rattle.request_scope.specs.Scope.{is_read_only}
use Rattle.session_rows.specs.Dataspaces as rows
use Rattle.session_rows.specs.ObjectChecks.{session_format}
use Rattle.session_rows.specs.Objects as objects
use Rattle.session_rows.specs.Transactions as transactions
use Rattle.session_rows.specs.declared.formats.Format.{Format}
use Rattle.store_machine.specs.Laws.{IsCallAt}
use Rattle.store_machine.specs.declared.journal.Entry.{Entry}
use Rattle.store_machine.specs.declared.call.Answer.{Answer}
use Rattle.store_machine.specs.declared.call.SpacePut.{SpacePut}
use Rattle.store_machine.specs.declared.call.StoreCall.{StoreCall}
use Rattle.store_machine.specs.declared.call.StoreCall.TheVariants as call
use Rattle.subscribe_core.specs.Subscriptions.{asked_from}
use Rattle.tx_stage.specs.Staging.{Transaction}
use Rattle.tx_stage.specs.declared.look.Want.{Want}
use Rattle.tx_stage.specs.declared.op.Op.{Op}
use Rattle.session_core.specs.declared.state.Request.{Request}
use Rattle.session_core.specs.declared.state.Arrived.{Arrived}
use Rattle.session_core.specs.declared.state.Arrived.TheVariants as arrives
use Rattle.session_core.specs.declared.state.Live.{Live}
use Rattle.session_core.specs.declared.state.Pending.{Pending}
use Rattle.session_core.specs.declared.state.Pending.TheVariants as pending
use Rattle.session_core.specs.declared.state.StagedPending.TheVariants as staged
use Rattle.session_core.specs.declared.state.Phase.{Phase}
use Rattle.session_core.specs.declared.state.Phase.TheVariants as phase
use Rattle.session_core.specs.State.{State}
use Rattle.session_core.specs.Arriving.{arrived, request_of}
use Rattle.session_core.specs.Machine.{taken, acknowledged, by_phase, by_event, no_call, on_arrays, on_outcome, on_join, on_joined, on_message, on_objects, on_poll, on_protocol, on_received, on_row, on_store, on_whole, protocol_refusal, put_request, refuses, accepting, given_to}
use Rattle.session_core.proofs.ChannelCallLemmas.{CallsOfChannels, channels_ask, of_load_message, of_subscribe_message}
use Rattle.session_core.specs.Run.{takes, hears, Asks, TakingAsks, AnswersAreLast}

-- ---- the calls of a session, at any history
module _ (h : List Entry) where
  abbrev CallsAsk : {P M : Type 0} → Outcome StoreCall P M → Type 0
  CallsAsk (Replies sendings) = Unit {0}
  CallsAsk (Calls c p) = IsCallAt h c

  unless : {P M : Type 0} (why : Option ErrorCode) (o : Outcome StoreCall P M) → CallsAsk o → CallsAsk (unless_refused why o)
  unless (Some code) o asks = tt
  unless None o asks = asks

  -- ---- Dataspace
  put_spaces : (o : Outcome (List (List ℕ × SpacePut)) (List (List ℕ × Decision (Unit {0}))) DataspaceMessage) → CallsAsk (rows.put_call o)
  put_spaces (Replies sendings) = tt
  put_spaces (Calls c p) = tt

  delete_spaces : (o : Outcome (List (List ℕ × List ℕ)) (List (List ℕ × Decision (Unit {0}))) DataspaceMessage) → CallsAsk (rows.delete_call o)
  delete_spaces (Replies sendings) = tt
  delete_spaces (Calls c p) = tt

  dataspaces : (m : DataspaceMessage) (in_transaction : Bool) → CallsAsk (rows.dataspace_outcome m in_transaction)
  dataspaces (space.GetDataspaces x) b = tt
  dataspaces (space.PutDataspaces x) b = unless (rows.change_refusal b x.dataspaces) (rows.put_call (plain_outcome rows.checked_put rows.put_response x.dataspaces)) (put_spaces (plain_outcome rows.checked_put rows.put_response x.dataspaces))
  dataspaces (space.DeleteDataspaces x) b = unless (rows.change_refusal b x.uris) (rows.delete_call (plain_outcome rows.changeable_path rows.delete_response x.uris)) (delete_spaces (plain_outcome rows.changeable_path rows.delete_response x.uris))
  dataspaces (space.GetDataspacesResponse x) b = tt
  dataspaces (space.PutDataspacesResponse x) b = tt
  dataspaces (space.DeleteDataspacesResponse x) b = tt

  -- ---- Store
  got : (f : Format) (o : Outcome (List (List ℕ × Want)) (List (List ℕ × Decision StoreUri)) StoreMessage) → CallsAsk (objects.get_call f o)
  got f (Replies sendings) = tt
  got f (Calls c p) = tt

  get_objects : (stage : Option Transaction) (uris : List (List ℕ × List ℕ)) (f : Option Format) → CallsAsk (objects.get_outcome stage uris f)
  get_objects stage uris None = tt
  get_objects stage uris (Some f) = got f _

  put_objects_called : (o : Outcome (List (List ℕ × Op)) (List (List ℕ × Decision (Unit {0}))) StoreMessage) → CallsAsk (objects.put_call o)
  put_objects_called (Replies sendings) = tt
  put_objects_called (Calls c p) = tt

  staged_put_call : (at : ℤ) (o : Outcome (List (List ℕ × List Want)) (List (List ℕ × Decision ObjectRecord)) StoreMessage) → CallsAsk (objects.staged_put_call at o)
  staged_put_call at (Replies sendings) = tt
  staged_put_call at (Calls c p) = tt

  put_objects : (formats : List Format) (types : Option (List (List ℕ))) (stage : Option Transaction) (at : ℤ) (xs : List (List ℕ × DataObject)) → CallsAsk (objects.put_outcome formats types stage at xs)
  put_objects formats types None at xs = put_objects_called _
  put_objects formats types (Some x) at xs = staged_put_call at _

  delete_objects_called : (o : Outcome (List (List ℕ × Op)) (List (List ℕ × Decision StoreUri)) StoreMessage) → CallsAsk (objects.delete_call o)
  delete_objects_called (Replies sendings) = tt
  delete_objects_called (Calls c p) = tt

  staged_delete_call : (at : ℤ) (o : Outcome (List (List ℕ × Want)) (List (List ℕ × Decision StoreUri)) StoreMessage) → CallsAsk (objects.staged_delete_call at o)
  staged_delete_call at (Replies sendings) = tt
  staged_delete_call at (Calls c p) = tt

  delete_objects : (stage : Option Transaction) (at : ℤ) (uris : List (List ℕ × List ℕ)) → CallsAsk (objects.delete_outcome stage at uris)
  delete_objects None at uris = delete_objects_called _
  delete_objects (Some x) at uris = staged_delete_call at _

  of_object_message : (formats : List Format) (types : Option (List (List ℕ))) (stage : Option Transaction) (at : ℤ) (m : StoreMessage) → CallsAsk (objects.object_outcome formats types stage at m)
  of_object_message formats types stage at (object.GetDataObjects m) = unless _ _ (get_objects stage m.uris (session_format formats m.format))
  of_object_message formats types stage at (object.PutDataObjects m) = unless _ _ (put_objects formats types stage at m.data_objects)
  of_object_message formats types stage at (object.DeleteDataObjects m) = unless _ _ (delete_objects stage at m.uris)
  of_object_message formats types stage at (object.GetDataObjectsResponse m) = tt
  of_object_message formats types stage at (object.Chunk m) = tt
  of_object_message formats types stage at (object.PutDataObjectsResponse m) = tt
  of_object_message formats types stage at (object.DeleteDataObjectsResponse m) = tt

  -- ---- DataArray
  looks_called : {K : Type 0} (keep : List (List ℕ × Decision K) → ArrayPending) (o : Outcome (List (List ℕ × Want)) (List (List ℕ × Decision K)) DataArrayMessage) → CallsAsk (arrays.looks_called keep o)
  looks_called keep (Replies sendings) = tt
  looks_called keep (Calls c p) = tt

  joined_called : {K : Type 0} (keep : List (List ℕ × Decision K) → ArrayPending) (o : Outcome (List (List ℕ × List Want)) (List (List ℕ × Decision K)) DataArrayMessage) → CallsAsk (arrays.joined_called keep o)
  joined_called keep (Replies sendings) = tt
  joined_called keep (Calls c p) = tt

  ops_call : (what : ArrayChange) (o : Outcome (List (List ℕ × Op)) (List (List ℕ × Decision (Unit {0}))) DataArrayMessage) → CallsAsk (arrays.ops_call what o)
  ops_call what (Replies sendings) = tt
  ops_call what (Calls c p) = tt

  slices : (stage : Option Transaction) (xs : List (List ℕ × GetDataSubarraysType)) → CallsAsk (arrays.slice_outcome stage xs)
  slices None xs = looks_called _ _
  slices (Some x) xs = looks_called _ _

  metadata : (stage : Option Transaction) (xs : List (List ℕ × DataArrayIdentifier)) → CallsAsk (arrays.metadata_outcome stage xs)
  metadata None xs = looks_called _ _
  metadata (Some x) xs = looks_called _ _

  put_arrays : (stage : Option Transaction) (at : ℤ) (xs : List (List ℕ × PutDataArraysType)) → CallsAsk (arrays.put_outcome stage at xs)
  put_arrays None at xs = ops_call _ _
  put_arrays (Some x) at xs = joined_called _ _

  patch_arrays : (stage : Option Transaction) (at : ℤ) (xs : List (List ℕ × PutDataSubarraysType)) → CallsAsk (arrays.patch_outcome stage at xs)
  patch_arrays None at xs = ops_call _ _
  patch_arrays (Some x) at xs = looks_called _ _

  make_arrays : (stage : Option Transaction) (at : ℤ) (xs : List (List ℕ × PutUninitializedDataArrayType)) → CallsAsk (arrays.make_outcome stage at xs)
  make_arrays None at xs = ops_call _ _
  make_arrays (Some x) at xs = joined_called _ _

  get_arrays : (stage : Option Transaction) (ids : List (List ℕ × DataArrayIdentifier)) → CallsAsk (arrays.get_outcome stage ids)
  get_arrays stage ids = looks_called _ _

  of_array_message : (stage : Option Transaction) (at : ℤ) (m : DataArrayMessage) → CallsAsk (arrays.array_outcome stage at m)
  of_array_message stage at (array.GetDataArrays m) = unless _ _ (get_arrays stage m.data_arrays)
  of_array_message stage at (array.GetDataSubarrays m) = unless _ _ (slices stage m.data_subarrays)
  of_array_message stage at (array.GetDataArrayMetadata m) = unless _ _ (metadata stage m.data_arrays)
  of_array_message stage at (array.PutDataArrays m) = unless _ _ (put_arrays stage at m.data_arrays)
  of_array_message stage at (array.PutDataSubarrays m) = unless _ _ (patch_arrays stage at m.data_subarrays)
  of_array_message stage at (array.PutUninitializedDataArrays m) = unless _ _ (make_arrays stage at m.data_arrays)
  of_array_message stage at (array.GetDataArraysResponse m) = tt
  of_array_message stage at (array.GetDataArrayMetadataResponse m) = tt
  of_array_message stage at (array.GetDataSubarraysResponse m) = tt
  of_array_message stage at (array.PutDataArraysResponse m) = tt
  of_array_message stage at (array.PutDataSubarraysResponse m) = tt
  of_array_message stage at (array.PutUninitializedDataArraysResponse m) = tt

  -- ---- Transaction
  starts_with : (instance : List ℕ) (number starts : ℕ) (read_only : Bool) (paths : Decision (List (List ℕ))) → CallsAsk (transactions.start_with instance number starts read_only paths).outcome
  starts_with instance number starts read_only (Refused code) = tt
  starts_with instance number starts read_only (Granted ps) = tt

  starts_unless : (many : Bool) (instance : List ℕ) (number starts : ℕ) (read_only : Bool) (paths : Decision (List (List ℕ)))
      → CallsAsk (if many then transactions.refuses None starts code.LimitExceeded else transactions.start_with instance number starts read_only paths).outcome
  starts_unless true instance number starts read_only paths = tt
  starts_unless false instance number starts read_only paths = starts_with instance number starts read_only paths

  start : (instance : List ℕ) (number : ℕ) (stage : Option Transaction) (starts : ℕ) (m : StartTransaction) → CallsAsk (transactions.start instance number stage starts m).outcome
  start instance number (Some x) starts m = tt
  start instance number None starts m = starts_unless (nat_lt 1024 (length m.dataspace_uris)) instance number starts m.read_only (transactions.space_paths m.dataspace_uris)

  ends_if : (same : Bool) (x : Transaction) (starts : ℕ) (o : transactions.TransactionOutcome) → CallsAsk o
      → CallsAsk (if same then transactions.leaves None starts o else transactions.refuses (Some x) starts code.InvalidArgument).outcome
  ends_if true x starts o asks = asks
  ends_if false x starts o asks = tt

  ends : (stage : Option Transaction) (starts : ℕ) (id : List ℕ) (outcome : Transaction → transactions.TransactionOutcome) → ((x : Transaction) → CallsAsk (outcome x))
      → CallsAsk (transactions.ends stage starts id outcome).outcome
  ends None starts id outcome asks = tt
  ends (Some x) starts id outcome asks = ends_if (bytes_eq x.id id) x starts (outcome x) (asks x)

  of_transaction_message : (instance : List ℕ) (number : ℕ) (stage : Option Transaction) (starts : ℕ) (m : TransactionMessage) → CallsAsk (transactions.transaction_request instance number stage starts m).outcome
  of_transaction_message instance number stage starts (transacts.StartTransaction m) = start instance number stage starts m
  of_transaction_message instance number stage starts (transacts.CommitTransaction m) = ends stage starts m.transaction_uuid (transactions.commit m.transaction_uuid) (λ x. tt)
  of_transaction_message instance number stage starts (transacts.RollbackTransaction m) = ends stage starts m.transaction_uuid (transactions.rollback m.transaction_uuid) (λ x. tt)
  of_transaction_message instance number stage starts (transacts.StartTransactionResponse m) = tt
  of_transaction_message instance number stage starts (transacts.CommitTransactionResponse m) = tt
  of_transaction_message instance number stage starts (transacts.RollbackTransactionResponse m) = tt

  -- ---- a half step
  of_outcome : {P M : Type 0} (wrapped : M → Message) (kept : Request → P → Pending) (r : Request) (o : Outcome StoreCall P M) (s : State) → CallsAsk o → IfSome (on_outcome wrapped kept r o s).call (IsCallAt h)
  of_outcome wrapped kept r (Replies sendings) s asks = tt
  of_outcome wrapped kept r (Calls c p) s asks = asks

  of_channels : {P M : Type 0} (wrapped : M → Message) (kept : Request → P → Pending) (r : Request) (o : Outcome StoreCall P M) (s : State) → CallsOfChannels o → IfSome (on_outcome wrapped kept r o s).call (IsCallAt h)
  of_channels wrapped kept r (Replies sendings) s of = tt
  of_channels wrapped kept r (Calls c p) s of = channels_ask h c of

  of_objects : (r : Request) (o : objects.ObjectOutcome) (s : State) → CallsAsk o → IfSome (on_objects r o s).call (IsCallAt h)
  of_objects r (Replies sendings) s asks = tt
  of_objects r (Calls c p) s asks = asks

  of_arrays : (r : Request) (o : arrays.ArrayOutcome) (s : State) → CallsAsk o → IfSome (on_arrays r o s).call (IsCallAt h)
  of_arrays r (Replies sendings) s asks = tt
  of_arrays r (Calls c p) s asks = asks

  of_whole : (r : Request) (moment : ℤ) (m : Message) (s : State) → IfSome (on_whole r moment m s).call (IsCallAt h)
  of_whole r moment (message.Store m) s = of_objects r (objects.object_outcome s.formats s.config.types s.stage moment m) s (of_object_message s.formats s.config.types s.stage moment m)
  of_whole r moment _ s = tt

  of_joined : (hd : Header) (moment : ℤ) (r : Request) (j : Result (Joined × Option Awaited) JoinError) (s : State) → IfSome (on_joined hd moment r j s).call (IsCallAt h)
  of_joined hd moment r (Err e) s = tt
  of_joined hd moment r (Ok (More, w)) s = tt
  of_joined hd moment r (Ok (Whole m, w)) s = of_whole r moment m (record s { joiner = w })

  of_put : (only : Bool) (hd : Header) (moment : ℤ) (m : StoreMessage) (s : State) → IfSome (if only then no_call (refuses (request_of hd) code.RequestDenied s) else on_join hd moment m s).call (IsCallAt h)
  of_put true hd moment m s = tt
  of_put false hd moment m s = of_joined hd moment (put_request hd s.joiner) (joins s.joiner hd (message.Store m)) s

  of_store : (hd : Header) (moment : ℤ) (m : StoreMessage) (s : State) → IfSome (on_store hd moment m s).call (IsCallAt h)
  of_store hd moment (object.PutDataObjects m) s = of_put (is_read_only s.stage) hd moment (object.PutDataObjects m) s
  of_store hd moment (object.Chunk m) s = of_joined hd moment (put_request hd s.joiner) (joins s.joiner hd (message.Store (object.Chunk m))) s
  of_store hd moment m s = of_whole (request_of hd) moment (message.Store m) s

  of_row : (hd : Header) (moment : ℤ) (m : Message) (s : State) → IfSome (on_row hd moment m s).call (IsCallAt h)
  of_row hd moment (message.Dataspace m) s = of_outcome message.Dataspace pending.Dataspaces (request_of hd) (rows.dataspace_outcome m (is_some s.stage)) s (dataspaces m (is_some s.stage))
  of_row hd moment (message.Store m) s = of_store hd moment m s
  of_row hd moment (message.DataArray m) s = of_arrays (request_of hd) (arrays.array_outcome s.stage moment m) s (of_array_message s.stage moment m)
  of_row hd moment (message.Transaction m) s =
      let t = transactions.transaction_request s.config.instance s.number s.stage s.starts m in
      of_outcome message.Transaction pending.Transactions (request_of hd) t.outcome (record s { stage = t.stage; starts = t.starts }) (of_transaction_message s.config.instance s.number s.stage s.starts m)
  of_row hd moment (message.ChannelSubscribe m) s = of_channels message.ChannelSubscribe pending.Subscriptions (request_of hd) (subscribes.subscribe_outcome s.subs m).outcome (record s { subs = (subscribes.subscribe_outcome s.subs m).subs }) (of_subscribe_message s.subs m)
  of_row hd moment (message.ChannelDataLoad m) s = of_channels message.ChannelDataLoad pending.Loads (request_of hd) (loads.load_outcome s.opens moment m).outcome (record s { opens = (loads.load_outcome s.opens moment m).opens }) (of_load_message s.opens moment m)
  of_row hd moment _ s = tt

  of_protocol : (why : Option ErrorCode) (hd : Header) (moment : ℤ) (m : Message) (s : State) → IfSome (on_protocol why hd moment m s).call (IsCallAt h)
  of_protocol (Some c) hd moment m s = tt
  of_protocol None hd moment m s = of_row hd moment m s

  of_message : (live : Live) (hd : Header) (moment : ℤ) (m : Message) (s : State) → IfSome (on_message live hd moment m s).call (IsCallAt h)
  of_message live hd moment (message.Core m) s = tt
  of_message live hd moment m s = of_protocol (protocol_refusal live s.accepted hd.protocol) hd moment m s

  of_received : (p : Phase) (hd : Header) (moment : ℤ) (m : Message) (s : State) → IfSome (on_received p hd moment m s).call (IsCallAt h)
  of_received (phase.Live live) hd moment m s = of_message live hd moment m s
  of_received (phase.Ended e) hd moment m s = tt

  of_cursor : (subs : List Sub) (front : ℕ) (cursor : Option ℕ) (s : State) → IfSome (on_poll (subscribes.news_from subs front cursor) s).call (IsCallAt h)
  of_cursor subs front None s = tt
  of_cursor subs front (Some cursor) s = later (nat_lt cursor front)
    where
      later : (b : Bool) → IfSome (on_poll (if b then Some (call.News cursor subs) else None) s).call (IsCallAt h)
      later true = tt
      later false = tt

  of_event : (live : Live) (a : Arrived) (s : State) → IfSome (by_event live a s).call (IsCallAt h)
  of_event live (arrives.Unreadable c) s = tt
  of_event live (arrives.Stale r) s = tt
  of_event live (arrives.Refused r c) s = tt
  of_event live (arrives.Fresh hd moment m) s = of_received _ hd moment m (acknowledged hd m (accepting (request_of hd) s))
  of_event live (arrives.Polled front) s = of_cursor s.subs.subs front (asked_from s.subs) s

  of_phase : (p : Phase) (a : Arrived) (s : State) → IfSome (by_phase p a s).call (IsCallAt h)
  of_phase (phase.Live live) a s = of_event live a s
  of_phase (phase.Ended e) a s = tt

-- for the crates above: what a session may ask, at one history
pub asks_call : (o : Option StoreCall) (h : List Entry) → IfSome o Asks → IfSome o (IsCallAt h)
asks_call None h asks = tt
asks_call (Some call) h asks = asks h

-- a call for which that holds at each history is one that a session may make
asks_of : (o : Option StoreCall) → ((h : List Entry) → IfSome o (IsCallAt h)) → IfSome o Asks
asks_of None all = tt
asks_of (Some call) all = all

pub taking_asks : TakingAsks
unfolding takes
taking_asks s e = asks_of (taken s e).call (λ h. of_phase h s.phase (arrived s.last_id e) s)

-- the same of what comes of an event at first sight
pub phase_asks : (s : State) (p : Phase) (a : Arrived) (r : Result (Option StoreCall) NoMemory) → IfOk r (λ call. call ≡ (by_phase p a s).call) → IfOk r (λ call. IfSome call Asks)
phase_asks s p a (Ok call) is = subst (λ (o : Option StoreCall). IfSome o Asks) (sym is) (asks_of (by_phase p a s).call (λ h. of_phase h p a s))
phase_asks s p a (Err why) is = tt

-- ---- the answer
by_pending : (p : Option Pending) (a : Answer) (s : State) → s.pending ≡ None → (given_to p a s).pending ≡ None
by_pending None a s is = is
by_pending (Some (pending.Dataspaces r p)) a s is = is
by_pending (Some (pending.Objects r p)) a s is = is
by_pending (Some (pending.Arrays r p)) a s is = is
by_pending (Some (pending.Staged r keys (staged.Objects p))) a s is = is
by_pending (Some (pending.Staged r keys (staged.Arrays p))) a s is = is
by_pending (Some (pending.Transactions r p)) a s is = is
by_pending (Some (pending.Loads r p)) a s is = is
by_pending (Some (pending.Subscriptions r p)) a s is = is

pub answers_are_last : AnswersAreLast
unfolding hears
answers_are_last s a = by_pending s.pending a (record s { pending = None }) refl
