-- Before its commit nothing of a transaction is in the history.
use Rattle.std.specs.Prelude.{ℕ, ℤ, Bool, true, false, ◌&&◌, List, [], ◌∷◌, ◌++◌, ◌≡◌, Option, Some, None, Result, Ok, Err, IsSome, IsSomeAnd, MatchOption, is_some, nat_lt, take, if◌then◌else◌, refl}
use Rattle.std.specs.Map.{values_of}
use Rattle.std.specs.Str.{bytes_eq}
use Rattle.std.proofs.Common.{ap, subst, sym, ◌∙◌}
use Rattle.std.proofs.lemmas.Bool.{false≢true}
use Rattle.std.proofs.lemmas.List.{append-nil}
use Rattle.std.proofs.lemmas.List.Elements.{filter-append}
use Rattle.array_rows.specs.Arrays as arrays
use Rattle.array_rows.specs.declared.arrays.ArrayPending.{ArrayPending}
use Rattle.server_config.specs.declared.config.Config.{Config}
use Rattle.channel_rows.specs.Loads as loads
use Rattle.channel_rows.specs.Subscriptions as subscribes
use Rattle.channel_store.specs.Refusals.{append_refusal, replace_refusal}
use Rattle.channel_store.specs.declared.subscription.Sub.{Sub}
use Rattle.etp_values.specs.declared.code.ErrorCode.{ErrorCode}
use Rattle.etp_values.specs.declared.code.ErrorCode.TheVariants as code
use Rattle.etp_values.specs.declared.point.ChannelPoint.{ChannelPoint}
use Rattle.etp_values.specs.declared.uri.StoreUri.{StoreUri}
use Rattle.etp_frame.specs.Header.{acknowledge, has_flag}
use Rattle.etp_frame.specs.Joining.{Awaited, joins}
use Rattle.etp_frame.specs.declared.header.Header.{Header}
use Rattle.etp_frame.specs.declared.joining.Joined.{Joined}
use Rattle.etp_frame.specs.declared.joining.Joined.TheVariants.{More, Whole}
use Rattle.etp_frame.specs.declared.joining.JoinError.{JoinError}
use Rattle.etp_frame.specs.declared.message.Message.{Message}
use Rattle.etp_frame.specs.declared.message.Message.TheVariants as message
use Rattle.keyed_requests.specs.Keys.{keys_refusal}
use Rattle.keyed_requests.specs.Sending.{unless_refused}
use Rattle.keyed_requests.specs.declared.keys.Decision.{Decision}
use Rattle.keyed_requests.specs.declared.sending.Outcome.{Outcome}
use Rattle.keyed_requests.specs.declared.sending.Outcome.TheVariants.{Replies, Calls}
use Rattle.msg_core.specs.declared.dataspace_messages.DataspaceMessage.{DataspaceMessage}
use Rattle.msg_core.specs.declared.dataspace_messages.DataspaceMessage.TheVariants as space
use Rattle.msg_core.specs.declared.transaction_messages.TransactionMessage.{TransactionMessage}
use Rattle.msg_core.specs.declared.transaction_messages.TransactionMessage.TheVariants as transacts
use Rattle.msg_store.specs.declared.data_array_messages.DataArrayMessage.{DataArrayMessage}
use Rattle.msg_store.specs.declared.data_array_messages.DataArrayMessage.TheVariants as array
use Rattle.msg_store.specs.declared.store_messages.StoreMessage.{StoreMessage}
use Rattle.msg_store.specs.declared.store_messages.StoreMessage.TheVariants as object
use Rattle.object_store.specs.declared.records.ObjectRecord.{ObjectRecord}
use Rattle.request_scope.specs.Scope.{is_read_only}
use Rattle.session_rows.specs.Dataspaces.{DataspaceOutcome, dataspace_outcome}
use Rattle.session_rows.specs.ObjectChecks.{session_format}
use Rattle.session_rows.specs.Objects as objects
use Rattle.session_rows.specs.Transactions as transactions
use Rattle.session_rows.specs.declared.formats.Format.{Format}
use Rattle.store_machine.specs.Answers.{act_of, added, all_or_none, entered, entry, has_room}
use Rattle.store_machine.specs.Channels.{channels_of}
use Rattle.store_machine.specs.Cuts.{cuts_accepted}
use Rattle.store_machine.specs.declared.call.Cutting.{Cutting}
use Rattle.store_machine.specs.declared.call.StoreCall.{StoreCall}
use Rattle.store_machine.specs.declared.call.StoreCall.TheVariants as call
use Rattle.store_machine.specs.declared.journal.Act.{Act}
use Rattle.store_machine.specs.declared.journal.Act.TheVariants as act
use Rattle.store_machine.specs.declared.journal.Entry.{Entry}
use Rattle.subscribe_core.specs.Subscriptions.{asked_from}
use Rattle.tx_stage.specs.Staging.{Transaction}
use Rattle.tx_stage.specs.declared.key.Key.{Key}
use Rattle.tx_stage.specs.declared.look.Want.{Want}
use Rattle.session_core.specs.declared.state.Request.{Request}
use Rattle.session_core.specs.declared.state.Arrived.{Arrived}
use Rattle.session_core.specs.declared.state.Arrived.TheVariants as arrives
use Rattle.session_core.specs.declared.state.Live.{Live}
use Rattle.session_core.specs.declared.state.Pending.{Pending}
use Rattle.session_core.specs.declared.state.Pending.TheVariants as pending
use Rattle.session_core.specs.declared.state.Phase.{Phase}
use Rattle.session_core.specs.declared.state.Phase.TheVariants as phase
use Rattle.session_core.specs.State.{State}
use Rattle.session_core.specs.Arriving.{Event, arrived, request_of}
use Rattle.session_core.specs.Machine.{Taken, accepting, arrays_kept, by_event, by_phase, may_acknowledge, no_call, objects_kept, on_arrays, on_join, on_joined, on_message, on_objects, on_outcome, on_poll, on_protocol, on_received, on_row, on_store, on_whole, protocol_refusal, put_request, refuses}
use Rattle.session_core.specs.Noting.{keys_in}
use Rattle.session_core.specs.Replies.{receipt}
use Rattle.session_core.specs.Run.{Course, answered_at, asked, at_place, happens, happens_unless, moment_of, own_number, run_from, takes}
use Rattle.session_core.specs.Sending.{said}
use Rattle.session_core.specs.Staged.{CallsWithin, CommitsNothing, IsCallWithin, IsCommitOf, IsListing, IsLookAt, IsOfChannels, LooksAddNothing, StaysUncommitted, UncommittedIsUnseen, changes_keys, key_entries}
use Rattle.session_core.proofs.ChannelCallLemmas.{CallsOfChannels, of_load_message, of_subscribe_message}

-- ---- the calls of a session in which this transaction is open

-- a look at any keys
abbrev IsLook : StoreCall → Type 0
IsLook (call.Look wants) = Unit {0}
IsLook _ = ⊥

looks_at : (c : StoreCall) → IsLook c → IsLookAt (keys_in c) c
looks_at (call.Look wants) is = refl
looks_at c is = absurd is

abbrev OnlyLooks : {P M : Type 0} → Outcome StoreCall P M → Type 0
OnlyLooks (Replies sendings) = Unit {0}
OnlyLooks (Calls c p) = IsLook c

unless : {P M : Type 0} (why : Option ErrorCode) (o : Outcome StoreCall P M) → OnlyLooks o → OnlyLooks (unless_refused why o)
unless (Some code) o looks = tt
unless None o looks = looks

module _ (x : Transaction) where
  -- ---- Store
  got : (f : Format) (o : Outcome (List (List ℕ × Want)) (List (List ℕ × Decision StoreUri)) StoreMessage) → OnlyLooks (objects.get_call f o)
  got f (Replies sendings) = tt
  got f (Calls c p) = tt

  get_objects : (uris : List (List ℕ × List ℕ)) (f : Option Format) → OnlyLooks (objects.get_outcome (Some x) uris f)
  get_objects uris None = tt
  get_objects uris (Some f) = got f _

  put_objects : (at : ℤ) (o : Outcome (List (List ℕ × List Want)) (List (List ℕ × Decision ObjectRecord)) StoreMessage) → OnlyLooks (objects.staged_put_call at o)
  put_objects at (Replies sendings) = tt
  put_objects at (Calls c p) = tt

  delete_objects : (at : ℤ) (o : Outcome (List (List ℕ × Want)) (List (List ℕ × Decision StoreUri)) StoreMessage) → OnlyLooks (objects.staged_delete_call at o)
  delete_objects at (Replies sendings) = tt
  delete_objects at (Calls c p) = tt

  of_object_message : (formats : List Format) (types : Option (List (List ℕ))) (at : ℤ) (m : StoreMessage) → OnlyLooks (objects.object_outcome formats types (Some x) at m)
  of_object_message formats types at (object.GetDataObjects m) = unless _ _ (get_objects m.uris (session_format formats m.format))
  of_object_message formats types at (object.PutDataObjects m) = unless (objects.change_refusal (Some x) m.prune_contained_objects m.data_objects) _ (put_objects at _)
  of_object_message formats types at (object.DeleteDataObjects m) = unless (objects.change_refusal (Some x) m.prune_contained_objects m.uris) _ (delete_objects at _)
  of_object_message formats types at (object.GetDataObjectsResponse m) = tt
  of_object_message formats types at (object.Chunk m) = tt
  of_object_message formats types at (object.PutDataObjectsResponse m) = tt
  of_object_message formats types at (object.DeleteDataObjectsResponse m) = tt

  -- ---- DataArray
  looks : {K : Type 0} (keep : List (List ℕ × Decision K) → ArrayPending) (o : Outcome (List (List ℕ × Want)) (List (List ℕ × Decision K)) DataArrayMessage) → OnlyLooks (arrays.looks_called keep o)
  looks keep (Replies sendings) = tt
  looks keep (Calls c p) = tt

  joined_looks : {K : Type 0} (keep : List (List ℕ × Decision K) → ArrayPending) (o : Outcome (List (List ℕ × List Want)) (List (List ℕ × Decision K)) DataArrayMessage) → OnlyLooks (arrays.joined_called keep o)
  joined_looks keep (Replies sendings) = tt
  joined_looks keep (Calls c p) = tt

  of_array_message : (at : ℤ) (m : DataArrayMessage) → OnlyLooks (arrays.array_outcome (Some x) at m)
  of_array_message at (array.GetDataArrays m) = unless (keys_refusal m.data_arrays) _ (looks _ _)
  of_array_message at (array.GetDataSubarrays m) = unless (keys_refusal m.data_subarrays) _ (looks _ _)
  of_array_message at (array.GetDataArrayMetadata m) = unless (keys_refusal m.data_arrays) _ (looks _ _)
  of_array_message at (array.PutDataArrays m) = unless (arrays.change_refusal (Some x) m.data_arrays) _ (joined_looks _ _)
  of_array_message at (array.PutDataSubarrays m) = unless (arrays.change_refusal (Some x) m.data_subarrays) _ (looks _ _)
  of_array_message at (array.PutUninitializedDataArrays m) = unless (arrays.change_refusal (Some x) m.data_arrays) _ (joined_looks _ _)
  of_array_message at (array.GetDataArraysResponse m) = tt
  of_array_message at (array.GetDataArrayMetadataResponse m) = tt
  of_array_message at (array.GetDataSubarraysResponse m) = tt
  of_array_message at (array.PutDataArraysResponse m) = tt
  of_array_message at (array.PutDataSubarraysResponse m) = tt
  of_array_message at (array.PutUninitializedDataArraysResponse m) = tt

  -- ---- Dataspace
  abbrev OnlyLists : DataspaceOutcome → Type 0
  OnlyLists (Replies sendings) = Unit {0}
  OnlyLists (Calls c p) = IsListing c

  of_dataspace_message : (m : DataspaceMessage) → OnlyLists (dataspace_outcome m true)
  of_dataspace_message (space.GetDataspaces m) = tt
  of_dataspace_message (space.PutDataspaces m) = tt
  of_dataspace_message (space.DeleteDataspaces m) = tt
  of_dataspace_message (space.GetDataspacesResponse m) = tt
  of_dataspace_message (space.PutDataspacesResponse m) = tt
  of_dataspace_message (space.DeleteDataspacesResponse m) = tt

  -- ---- Transaction
  abbrev OnlyCommits : transactions.TransactionOutcome → Type 0
  OnlyCommits (Replies sendings) = Unit {0}
  OnlyCommits (Calls c p) = IsCommitOf x c

  ends_if : (same : Bool) (starts : ℕ) (o : transactions.TransactionOutcome) → OnlyCommits o
      → OnlyCommits (if same then transactions.leaves None starts o else transactions.refuses (Some x) starts code.InvalidArgument).outcome
  ends_if true starts o commits = commits
  ends_if false starts o commits = tt

  of_transaction_message : (instance : List ℕ) (number starts : ℕ) (m : TransactionMessage) → OnlyCommits (transactions.transaction_request instance number (Some x) starts m).outcome
  of_transaction_message instance number starts (transacts.StartTransaction m) = tt
  of_transaction_message instance number starts (transacts.CommitTransaction m) = ends_if (bytes_eq x.id m.transaction_uuid) starts (transactions.commit m.transaction_uuid x) refl
  of_transaction_message instance number starts (transacts.RollbackTransaction m) = ends_if (bytes_eq x.id m.transaction_uuid) starts (transactions.rollback m.transaction_uuid x) tt
  of_transaction_message instance number starts (transacts.StartTransactionResponse m) = tt
  of_transaction_message instance number starts (transacts.CommitTransactionResponse m) = tt
  of_transaction_message instance number starts (transacts.RollbackTransactionResponse m) = tt

  -- ---- a half step
  abbrev Within : Taken → Type 0
  Within t = MatchOption t.call (Unit {0}) (λ c. IsSomeAnd t.state.pending (IsCallWithin x c))

  of_objects : (r : Request) (o : objects.ObjectOutcome) (s : State) → s.stage ≡ Some x → OnlyLooks o → Within (on_objects r o s)
  of_objects r (Replies sendings) s is looks = tt
  of_objects r (Calls c p) s is looks = subst (λ (st : Option Transaction). IsCallWithin x c (objects_kept st r c p)) (sym is) (looks_at c looks)

  of_arrays : (r : Request) (o : arrays.ArrayOutcome) (s : State) → s.stage ≡ Some x → OnlyLooks o → Within (on_arrays r o s)
  of_arrays r (Replies sendings) s is looks = tt
  of_arrays r (Calls c p) s is looks = subst (λ (st : Option Transaction). IsCallWithin x c (arrays_kept st r c p)) (sym is) (looks_at c looks)

  of_dataspaces : (r : Request) (o : DataspaceOutcome) (s : State) → OnlyLists o → Within (on_outcome message.Dataspace pending.Dataspaces r o s)
  of_dataspaces r (Replies sendings) s lists = tt
  of_dataspaces r (Calls c p) s lists = lists

  of_transactions : (r : Request) (o : transactions.TransactionOutcome) (s : State) → OnlyCommits o → Within (on_outcome message.Transaction pending.Transactions r o s)
  of_transactions r (Replies sendings) s commits = tt
  of_transactions r (Calls c p) s commits = commits

  of_loads : (r : Request) (o : loads.LoadOutcome) (s : State) → CallsOfChannels o → Within (on_outcome message.ChannelDataLoad pending.Loads r o s)
  of_loads r (Replies sendings) s of = tt
  of_loads r (Calls c p) s of = of

  of_subscriptions : (r : Request) (o : subscribes.SubscribeOutcome) (s : State) → CallsOfChannels o → Within (on_outcome message.ChannelSubscribe pending.Subscriptions r o s)
  of_subscriptions r (Replies sendings) s of = tt
  of_subscriptions r (Calls c p) s of = of

  of_whole : (r : Request) (moment : ℤ) (m : Message) (s : State) → s.stage ≡ Some x → Within (on_whole r moment m s)
  of_whole r moment (message.Store m) s is =
      of_objects r (objects.object_outcome s.formats s.config.types s.stage moment m) s is
      (subst (λ (st : Option Transaction). OnlyLooks (objects.object_outcome s.formats s.config.types st moment m)) (sym is) (of_object_message s.formats s.config.types moment m))
  of_whole r moment _ s is = tt

  of_joined : (hd : Header) (moment : ℤ) (r : Request) (j : Result (Joined × Option Awaited) JoinError) (s : State) → s.stage ≡ Some x → Within (on_joined hd moment r j s)
  of_joined hd moment r (Err e) s is = tt
  of_joined hd moment r (Ok (More, w)) s is = tt
  of_joined hd moment r (Ok (Whole m, w)) s is = of_whole r moment m (record s { joiner = w }) is

  of_put : (only : Bool) (hd : Header) (moment : ℤ) (m : StoreMessage) (s : State) → s.stage ≡ Some x → Within (if only then no_call (refuses (request_of hd) code.RequestDenied s) else on_join hd moment m s)
  of_put true hd moment m s is = tt
  of_put false hd moment m s is = of_joined hd moment (put_request hd s.joiner) (joins s.joiner hd (message.Store m)) s is

  of_store : (hd : Header) (moment : ℤ) (m : StoreMessage) (s : State) → s.stage ≡ Some x → Within (on_store hd moment m s)
  of_store hd moment (object.PutDataObjects m) s is = of_put (is_read_only s.stage) hd moment (object.PutDataObjects m) s is
  of_store hd moment (object.Chunk m) s is = of_joined hd moment (put_request hd s.joiner) (joins s.joiner hd (message.Store (object.Chunk m))) s is
  of_store hd moment m s is = of_whole (request_of hd) moment (message.Store m) s is

  of_row : (hd : Header) (moment : ℤ) (m : Message) (s : State) → s.stage ≡ Some x → Within (on_row hd moment m s)
  of_row hd moment (message.Dataspace m) s is =
      of_dataspaces (request_of hd) (dataspace_outcome m (is_some s.stage)) s
      (subst (λ (st : Option Transaction). OnlyLists (dataspace_outcome m (is_some st))) (sym is) (of_dataspace_message m))
  of_row hd moment (message.Store m) s is = of_store hd moment m s is
  of_row hd moment (message.DataArray m) s is =
      of_arrays (request_of hd) (arrays.array_outcome s.stage moment m) s is
      (subst (λ (st : Option Transaction). OnlyLooks (arrays.array_outcome st moment m)) (sym is) (of_array_message moment m))
  of_row hd moment (message.Transaction m) s is =
      let t = transactions.transaction_request s.config.instance s.number s.stage s.starts m in
      of_transactions (request_of hd) t.outcome (record s { stage = t.stage; starts = t.starts })
      (subst (λ (st : Option Transaction). OnlyCommits (transactions.transaction_request s.config.instance s.number st s.starts m).outcome) (sym is) (of_transaction_message s.config.instance s.number s.starts m))
  of_row hd moment (message.ChannelSubscribe m) s is =
      of_subscriptions (request_of hd) (subscribes.subscribe_outcome s.subs m).outcome (record s { subs = (subscribes.subscribe_outcome s.subs m).subs }) (of_subscribe_message s.subs m)
  of_row hd moment (message.ChannelDataLoad m) s is =
      of_loads (request_of hd) (loads.load_outcome s.opens moment m).outcome (record s { opens = (loads.load_outcome s.opens moment m).opens }) (of_load_message s.opens moment m)
  of_row hd moment _ s is = tt

  of_protocol : (why : Option ErrorCode) (hd : Header) (moment : ℤ) (m : Message) (s : State) → s.stage ≡ Some x → Within (on_protocol why hd moment m s)
  of_protocol (Some c) hd moment m s is = tt
  of_protocol None hd moment m s is = of_row hd moment m s is

  of_message : (live : Live) (hd : Header) (moment : ℤ) (m : Message) (s : State) → s.stage ≡ Some x → Within (on_message live hd moment m s)
  of_message live hd moment (message.Core m) s is = tt
  of_message live hd moment m s is = of_protocol (protocol_refusal live s.accepted hd.protocol) hd moment m s is

  of_received : (p : Phase) (hd : Header) (moment : ℤ) (m : Message) (s : State) → s.stage ≡ Some x → Within (on_received p hd moment m s)
  of_received (phase.Live live) hd moment m s is = of_message live hd moment m s is
  of_received (phase.Ended e) hd moment m s is = tt

  of_cursor : (subs : List Sub) (front : ℕ) (cursor : Option ℕ) (s : State) → Within (on_poll (subscribes.news_from subs front cursor) s)
  of_cursor subs front None s = tt
  of_cursor subs front (Some cursor) s = later (nat_lt cursor front)
    where
      later : (b : Bool) → Within (on_poll (if b then Some (call.News cursor subs) else None) s)
      later true = tt
      later false = tt

  -- an Acknowledge leaves the transaction
  of_acknowledged : (wanted : Bool) (hd : Header) (moment : ℤ) (m : Message) (s : State) → s.stage ≡ Some x →
      let t = if wanted then said (request_of hd) (receipt ∷ []) s else s in Within (on_received t.phase hd moment m t)
  of_acknowledged true hd moment m s is = let t = said (request_of hd) (receipt ∷ []) s in of_received t.phase hd moment m t is
  of_acknowledged false hd moment m s is = of_received s.phase hd moment m s is

  of_event : (live : Live) (a : Arrived) (s : State) → s.stage ≡ Some x → Within (by_event live a s)
  of_event live (arrives.Unreadable c) s is = tt
  of_event live (arrives.Stale r) s is = tt
  of_event live (arrives.Refused r c) s is = tt
  of_event live (arrives.Fresh hd moment m) s is = of_acknowledged (has_flag hd.flags acknowledge && may_acknowledge m) hd moment m (accepting (request_of hd) s) is
  of_event live (arrives.Polled front) s is = of_cursor s.subs.subs front (asked_from s.subs) s

  of_phase : (p : Phase) (a : Arrived) (s : State) → s.stage ≡ Some x → Within (by_phase p a s)
  of_phase (phase.Live live) a s is = of_event live a s is
  of_phase (phase.Ended e) a s is = tt

pub calls_within : CallsWithin
unfolding takes
calls_within s e x is = of_phase x s.phase (arrived s.last_id e) s is

-- ---- what they add

pub looks_add_nothing : LooksAddNothing
unfolding added
looks_add_nothing config h by nth at wants = refl

-- a call that adds no entry that changes what is at keys
abbrev AddsNoKeys : StoreCall → Type 0
AddsNoKeys (call.Look wants) = Unit {0}
AddsNoKeys (call.Spaces newer) = Unit {0}
AddsNoKeys c = IsOfChannels c

by_look : (keys : List Key) (c : StoreCall) → IsLookAt keys c → AddsNoKeys c
by_look keys (call.Look wants) is = tt
by_look keys c is = absurd is

by_listing : (c : StoreCall) → IsListing c → AddsNoKeys c
by_listing (call.Spaces newer) is = tt
by_listing c is = absurd is

by_commit : (x : Transaction) (c : StoreCall) → IsCommitOf x c → CommitsNothing c → AddsNoKeys c
by_commit x (call.Commit staged) is commits = absurd commits
by_commit x c is commits = absurd is

by_channels : (c : StoreCall) → IsOfChannels c → AddsNoKeys c
by_channels (call.Look wants) of = tt
by_channels (call.Spaces newer) of = tt
by_channels c of = of

adds_no_keys : (x : Transaction) (c : StoreCall) (p : Option Pending) → IsSomeAnd p (IsCallWithin x c) → CommitsNothing c → AddsNoKeys c
adds_no_keys x c None is commits = absurd is
adds_no_keys x c (Some (pending.Staged r keys p)) is commits = by_look keys c is
adds_no_keys x c (Some (pending.Objects r p)) is commits = absurd is
adds_no_keys x c (Some (pending.Arrays r p)) is commits = absurd is
adds_no_keys x c (Some (pending.Dataspaces r p)) is commits = by_listing c is
adds_no_keys x c (Some (pending.Transactions r p)) is commits = by_commit x c is commits
adds_no_keys x c (Some (pending.Loads r p)) is commits = by_channels c is
adds_no_keys x c (Some (pending.Subscriptions r p)) is commits = by_channels c is

module _ (config : Config) (n : ℕ) (h : List Entry) where
  module _ (nth place : ℕ) (at : ℤ) where
    abbrev keys_added : List Act → List (ℕ × Entry)
    keys_added acts = key_entries (at_place place (entered config h n nth at acts))

    by_room : (room : Bool) (e : Entry) → changes_keys e.act ≡ false → key_entries (at_place place (if room then e ∷ [] else [])) ≡ []
    by_room true e leaves = ap (λ (b : Bool). if b then (place, e) ∷ [] else []) leaves
    by_room false e leaves = refl

    appends : (xs : List ChannelPoint) → keys_added (act_of act.Append xs) ≡ []
    appends [] = refl
    appends (x ∷ xs) = by_room (has_room config h (act.Append (x ∷ xs) ∷ [])) (entry h n nth at (act.Append (x ∷ xs))) refl

    replaces : (from to : ℤ) (items : List ChannelPoint) (ids : List ℤ) → keys_added (act_of (λ channels. act.Replace channels from to items) ids) ≡ []
    replaces from to items [] = refl
    replaces from to items (x ∷ xs) = by_room (has_room config h (act.Replace (x ∷ xs) from to items ∷ [])) (entry h n nth at (act.Replace (x ∷ xs) from to items)) refl

    truncates : (cuts : List Cutting) → keys_added (act_of act.Truncate cuts) ≡ []
    truncates [] = refl
    truncates (x ∷ xs) = by_room (has_room config h (act.Truncate (x ∷ xs) ∷ [])) (entry h n nth at (act.Truncate (x ∷ xs))) refl

    none_added : (c : StoreCall) → AddsNoKeys c → key_entries (at_place place (added config h n nth at c)) ≡ []
    unfolding added
    none_added (call.Look wants) adds = refl
    none_added (call.Spaces newer) adds = refl
    none_added (call.Append items) adds = appends (all_or_none (append_refusal (channels_of config h) items) items)
    none_added (call.Replace channels from to items) adds = replaces from to items (all_or_none (replace_refusal (channels_of config h) channels from to items) channels)
    none_added (call.Truncate items) adds = truncates (cuts_accepted (channels_of config h) [] (values_of items))
    none_added (call.Range items) adds = refl
    none_added (call.Meta items) adds = refl
    none_added (call.Subscribe items) adds = refl
    none_added (call.News cursor subs) adds = refl
    none_added call.Enter adds = absurd adds
    none_added (call.PutSpaces items) adds = absurd adds
    none_added (call.DropSpaces items) adds = absurd adds
    none_added (call.Put items) adds = absurd adds
    none_added (call.Commit staged) adds = absurd adds

-- ---- a run
module _ (config : Config) (n : ℕ) (h : List Entry) where
  answered_made : (at : ℤ) (c : Course) (s : State) (k : StoreCall) (places : List ℕ) → AddsNoKeys k → key_entries (answered_at config n h at c s k places).made ≡ key_entries c.made
  answered_made at c s k [] adds = refl
  answered_made at c s k (p ∷ ps) adds =
      filter-append _ c.made (at_place p (added config (take p h) n (own_number c.made) at k))
      ∙ ap (λ (l : List (ℕ × Entry)). key_entries c.made ++ l) (none_added config n (take p h) (own_number c.made) p at k adds)
      ∙ append-nil (key_entries c.made)

  asked_made : (at : ℤ) (c : Course) (x : Transaction) (t : Taken) → MatchOption t.call (Unit {0}) (λ k. IsSomeAnd t.state.pending (IsCallWithin x k)) → MatchOption t.call (Unit {0}) CommitsNothing
      → key_entries (asked config n h at c t.state t.call).made ≡ key_entries c.made
  asked_made at c x t within commits = by_call t.call within commits
    where
      by_call : (o : Option StoreCall) → MatchOption o (Unit {0}) (λ k. IsSomeAnd t.state.pending (IsCallWithin x k)) → MatchOption o (Unit {0}) CommitsNothing → key_entries (asked config n h at c t.state o).made ≡ key_entries c.made
      by_call None within commits = refl
      by_call (Some k) within commits = answered_made at c t.state k c.places (adds_no_keys x k t.state.pending within commits)

  -- one event
  happens_made : (short : Bool) (c : Course) (e : Event) (stage : Option Transaction) → c.state.stage ≡ stage → IsSome stage → MatchOption (takes c.state e).call (Unit {0}) CommitsNothing
      → key_entries (happens_unless config n h short c e).made ≡ key_entries c.made
  happens_made true c e stage is open_one commits = refl
  happens_made false c e None is open_one commits = absurd (false≢true open_one)
  happens_made false c e (Some x) is open_one commits = asked_made (moment_of e) c x (takes c.state e) (calls_within c.state e x is) commits

  unseen_from : (c : Course) (es : List Event) → StaysUncommitted config n h c es → key_entries (run_from config n h c es).made ≡ key_entries c.made
  unseen_from c [] stays = refl
  unseen_from c (e ∷ es) stays = unseen_from (happens config n h c e) es stays.2 ∙ happens_made c.short c e c.state.stage refl stays.0 stays.1

pub uncommitted_is_unseen : UncommittedIsUnseen
uncommitted_is_unseen config n h c es stays = unseen_from config n h c es stays
