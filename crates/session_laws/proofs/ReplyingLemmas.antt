-- What each event sends, by what it is.
use Rattle.std.specs.Prelude.{ℕ, ℤ, Bool, true, false, List, [], ◌∷◌, ◌++◌, ◌≡◌, ◌&&◌, is_some, length, map, nat_le, nat_lt, Option, Some, None, Result, Ok, Err, if◌then◌else◌, refl}
use Rattle.std.specs.List.{flat_map, AllByRecursion}
use Rattle.std.proofs.Common.{ap, sym, ◌∙◌, subst, append-nil, arith}
use Rattle.array_rows.specs.Arrays.{ArrayOutcome, ArraysAnswered, array_outcome, array_reply}
use Rattle.server_config.specs.declared.config.ChannelDef.{ChannelDef}
use Rattle.channel_rows.specs.Loads.{LoadOutcome, Loaded, load_outcome, load_reply}
use Rattle.channel_rows.specs.Notices.{Told, ids_of, news_told, notice, stop_response}
use Rattle.channel_rows.specs.Subscriptions.{SubscribeOutcome, asks_of, begin_one, beginning, metadata_call, metadata_outcome, metadata_response, news_call, news_from, none_named, ranges_refusal, replied, started_reply, stop_one, stop_outcome, subscribe_call, subscribe_one, begin_outcome, subscribe_outcome, subscribe_response, unless_leaving}
use Rattle.channel_rows.specs.declared.subscribing.Beginning.{Beginning}
use Rattle.channel_rows.specs.declared.subscriptions.SubscribePending.TheVariants as keeps_subscription
use Rattle.channel_store.specs.Points.{view}
use Rattle.channel_store.specs.declared.change.ChannelChange.{ChannelChange}
use Rattle.channel_store.specs.declared.change.What.{What}
use Rattle.channel_store.specs.declared.subscription.Sub.{Sub}
use Rattle.etp_frame.specs.Header.{acknowledge, has_flag}
use Rattle.etp_frame.specs.Joining.{Awaited, joins}
use Rattle.etp_frame.specs.declared.header.Header.{Header}
use Rattle.etp_frame.specs.declared.joining.JoinError.{JoinError}
use Rattle.etp_frame.specs.declared.joining.Joined.{Joined}
use Rattle.etp_frame.specs.declared.joining.Joined.TheVariants.{More, Whole}
use Rattle.etp_frame.specs.declared.message.Message.{Message}
use Rattle.etp_frame.specs.declared.message.Message.TheVariants as message
use Rattle.etp_values.proofs.EachLemmas.{all-append, all-weaker}
use Rattle.etp_values.specs.declared.code.ErrorCode.{ErrorCode}
use Rattle.etp_values.specs.declared.code.ErrorCode.TheVariants as code
use Rattle.keyed_requests.specs.Keyed.{called, checked, checked_state, finished, finished_state, kept, refused_keys, keyed_replies, request_reply, sent as sent_keys, unasked}
use Rattle.keyed_requests.specs.Keys.{keys_refusal}
use Rattle.keyed_requests.specs.Plain.{nothing}
use Rattle.keyed_requests.specs.Sending.{refusal_alone, unless_refused}
use Rattle.keyed_requests.specs.Uris.{object_uri}
use Rattle.keyed_requests.specs.declared.keys.Decision.{Decision}
use Rattle.keyed_requests.specs.declared.sending.Outcome.TheVariants.{Replies, Calls}
use Rattle.keyed_requests.specs.declared.sending.Sending.{Sending}
use Rattle.keyed_requests.specs.declared.sending.Sending.TheVariants.{Reply, Refusal, RefusedKeys, Notice}
use Rattle.msg_channel.specs.declared.channel_subscribe_messages.ChannelSubscribeMessage.{ChannelSubscribeMessage}
use Rattle.msg_channel.specs.declared.channel_subscribe_messages.ChannelSubscribeMessage.TheVariants as subscribe
use Rattle.msg_channel.specs.declared.channel_subscribe_messages.SubscribeChannels.{SubscribeChannels}
use Rattle.msg_channel.specs.declared.channel_subscribe_messages.UnsubscribeChannels.{UnsubscribeChannels}
use Rattle.msg_core.specs.declared.core_messages.CoreMessage.{CoreMessage}
use Rattle.msg_core.specs.declared.core_messages.CoreMessage.TheVariants as core
use Rattle.msg_core.specs.declared.core_messages.RequestSession.{RequestSession}
use Rattle.msg_store.specs.declared.store_messages.StoreMessage.{StoreMessage}
use Rattle.msg_store.specs.declared.store_messages.StoreMessage.TheVariants as object
use Rattle.request_scope.specs.Scope.{is_read_only}
use Rattle.session_rows.specs.Dataspaces.{DataspaceOutcome, dataspace_outcome, dataspace_reply}
use Rattle.session_rows.specs.Objects.{ObjectOutcome, ObjectsAnswered, object_outcome, object_reply}
use Rattle.session_rows.specs.Opening.{opening_of}
use Rattle.session_rows.specs.Transactions.{TransactionOutcome, transaction_reply, transaction_request}
use Rattle.session_rows.specs.declared.opening.Opening.{Opening}
use Rattle.session_rows.specs.declared.opening.Opening.TheVariants as opens
use Rattle.store_machine.specs.declared.call.Answer.{Answer}
use Rattle.store_machine.specs.declared.call.Reply.{Reply as StoreReply}
use Rattle.store_machine.specs.declared.call.Reply.TheVariants as answer
use Rattle.store_machine.specs.declared.call.StartAsk.{StartAsk}
use Rattle.store_machine.specs.declared.call.StartReply.{StartReply}
use Rattle.store_machine.specs.declared.call.StoreCall.{StoreCall}
use Rattle.store_machine.specs.declared.call.StoreCall.TheVariants as call
use Rattle.store_machine.specs.declared.journal.Entry.{Entry}
use Rattle.subscribe_core.specs.Subscriptions.{Subbed, cursor_with, has_sub}
use Rattle.subscribe_core.specs.Views.{sub_of, told, told_to}
use Rattle.subscribe_core.specs.declared.stop.StopCause.{StopCause}
use Rattle.subscribe_core.specs.declared.stop.StopCause.TheVariants.{Unsubscribed, Lagged}
use Rattle.session_core.specs.declared.state.Addressee.TheVariants as to
use Rattle.session_core.specs.declared.state.Arrived.{Arrived}
use Rattle.session_core.specs.declared.state.Arrived.TheVariants as arrives
use Rattle.session_core.specs.declared.state.Live.{Live}
use Rattle.session_core.specs.declared.state.Live.TheVariants as live
use Rattle.session_core.specs.declared.state.Outgoing.{Outgoing}
use Rattle.session_core.specs.declared.state.Pending.{Pending}
use Rattle.session_core.specs.declared.state.Pending.TheVariants as pending
use Rattle.session_core.specs.declared.state.Phase.{Phase}
use Rattle.session_core.specs.declared.state.Phase.TheVariants as phase
use Rattle.session_core.specs.declared.state.Request.{Request}
use Rattle.session_core.specs.declared.state.Saying.{Saying}
use Rattle.session_core.specs.declared.state.StagedPending.TheVariants as staged
use Rattle.session_core.specs.State.{State}
use Rattle.session_core.specs.Arriving.{Event, request_of}
use Rattle.session_core.specs.Granting.{IsAside, IsMatter, IsPoll, IsRead, IsReceipt, IsSent, IsToldTo, Matter, Aside, Begins, Ends, Stops, Tells, changes_in, first_in, request_in, speaks, subscribe_speaks}
use Rattle.session_core.specs.Machine.{Taken, accepting, acknowledged, arrays_kept, asks, by_event, by_phase, given, given_to, join_code, may_acknowledge, no_call, objects_kept, on_arrays, on_arrays_answered, on_core, on_join, on_joined, on_message, on_objects, on_objects_answered, on_outcome, on_ping, on_poll, on_protocol, on_received, on_request_session, on_row, on_store, on_subscriptions, on_subscriptions_answered, on_whole, opened, protocol_refusal, put_request, refuses, unread}
use Rattle.session_core.specs.Noting.{noting, reply_noted}
use Rattle.session_core.specs.Replies.{receipt, refusal, sayings_of, to_request}
use Rattle.session_core.specs.Sending.{blobs_sent, cut_all, is_spent, max_id, next_after, numbered, outgoing, replies_in, said}
use Rattle.session_core.specs.Streams.{is_spent_phase}
use Rattle.subscribe_core.proofs.SubLemmas.{absent-others}
use Rattle.session_laws.proofs.DecidingLemmas.{AreFair, Decides, all_decide}
use Rattle.session_core.proofs.MovingLemmas.{parts_in, unspent}
use Rattle.session_laws.proofs.SpeakingLemmas.{notices_replies, numbered_silent, numbered_split, parts_append}
use Rattle.session_core.proofs.StartingLemmas.{told_as}
use Rattle.session_core.proofs.StoppingLemmas.{kept_after}
use Rattle.session_core.proofs.SubscribingLemmas.{sayings_append}
use Rattle.session_core.proofs.TellingLemmas.{AreSolid, solid_told}
use Rattle.session_core.proofs.WalkingLemmas.{IsAway, away_arrays, away_objects}
use Rattle.session_core.proofs.ArrivalLemmas.{IsArrival}

-- ---- what is sent if ids are left

abbrev LiveState : State → Type 0
LiveState t = is_spent_phase t.phase ≡ false

-- only receipts were sent so far, and the subscriptions are as they were
pub record IsQuiet (v : Subbed) (m : State) : Type 0 where
  pub subs : m.subs ≡ v
  pub out : AllByRecursion IsReceipt m.out

-- keys are decided only by an answer of the store, and that by these entries
abbrev pub IsBy : Option (List Entry) → Matter → Type 0
IsBy known (Begins h asked before decided changes) = known ≡ Some before
IsBy known (Aside r sayings) = Unit {0}
IsBy known (Ends h asked decided) = Unit {0}
IsBy known (Tells changes) = Unit {0}
IsBy known (Stops lag ids) = Unit {0}

-- what was sent so far, and what it means, if the store answers by these entries
pub record Says (e : Event) (v : Subbed) (known : Option (List Entry)) (t : State) : Type 0 where
  pub matter : Matter
  pub parts : IsSent matter t.out
  pub means : IsMatter e v t.subs t.out matter
  pub by : IsBy known matter

abbrev notices_of : List ChannelChange → List Saying
notices_of cs = sayings_of message.ChannelSubscribe (map notice cs)

-- what is sent first is all
sent_first : (matter : Matter) (m : State) → AllByRecursion IsReceipt m.out → changes_in matter ≡ [] → is_spent m.next_id (parts_in m (first_in matter)) ≡ false
    → IsSent matter (m.out ++ numbered (request_in matter) m.next_id (parts_in m (first_in matter)))
sent_first matter m received none reaches =
    let whole : List Outgoing = numbered (request_in matter) m.next_id (parts_in m (first_in matter)) in
    record {
      limit = m.limit;
      number = m.number;
      blobs = m.blobs;
      more_blobs = m.blobs;
      first = m.next_id;
      second = m.next_id;
      receipts = m.out;
      received = received;
      reaches = reaches;
      reaches_changes = ap (λ cs. is_spent m.next_id (parts_in m (notices_of cs))) none;
      is = ap (λ l. m.out ++ l) (sym (append-nil whole) ∙ ap (λ cs. whole ++ numbered (request_in matter) m.next_id (parts_in m (notices_of cs))) (sym none));
    }

-- changes are sent after that
sent_both : (matter : Matter) (m : State) → AllByRecursion IsReceipt m.out → is_spent m.next_id (parts_in m (first_in matter ++ notices_of (changes_in matter))) ≡ false
    → IsSent matter (m.out ++ numbered (request_in matter) m.next_id (parts_in m (first_in matter ++ notices_of (changes_in matter))))
sent_both matter m received reaches =
    let r : Request = request_in matter in
    let xs : List Saying = first_in matter in
    let ys : List Saying = notices_of (changes_in matter) in
    let blobs : ℕ = blobs_sent m.limit m.blobs xs in
    let split = parts_append m.limit m.number m.blobs xs ys in
    let both = numbered_split r m.next_id (parts_in m xs) (cut_all m.limit m.number blobs ys) (notices_replies m.limit m.number blobs (changes_in matter)) (ap (is_spent m.next_id) (sym split) ∙ reaches) in
    record {
      limit = m.limit;
      number = m.number;
      blobs = m.blobs;
      more_blobs = blobs;
      first = m.next_id;
      second = next_after m.next_id (parts_in m xs);
      receipts = m.out;
      received = received;
      reaches = both.0;
      reaches_changes = both.1;
      is = ap (λ l. m.out ++ l) (ap (numbered r m.next_id) split ∙ both.2);
    }

receipts_silent : (os : List Outgoing) → AllByRecursion IsReceipt os → AllByRecursion (λ (o : Outgoing). speaks o.message ≡ false) os
receipts_silent os all = all-weaker IsReceipt (λ (o : Outgoing). speaks o.message ≡ false) (λ o f. ap speaks f) os all

module _ (e : Event) (v : Subbed) (known : Option (List Entry)) where
  pub silent_says : (t : State) → IsQuiet v t → Says e v known t
  silent_says t q = record {
    matter = Aside unread [];
    parts = record {
      limit = 0;
      number = 0;
      blobs = 0;
      more_blobs = 0;
      first = 0;
      second = 0;
      receipts = t.out;
      received = q.out;
      reaches = refl;
      reaches_changes = refl;
      is = sym (append-nil t.out);
    };
    means = (q.subs, tt, receipts_silent t.out q.out);
    by = tt;
  }

  aside_says : (r : Request) (xs : List Saying) (m : State) → AllByRecursion IsAside xs → IsQuiet v m → LiveState (said r xs m) → Says e v known (said r xs m)
  aside_says r xs m aside q live = record {
    matter = Aside r xs;
    parts = sent_first (Aside r xs) m q.out refl (unspent (is_spent m.next_id (parts_in m xs)) m.phase live);
    means = (
      q.subs,
      aside,
      all-append (λ (o : Outgoing). speaks o.message ≡ false) m.out (numbered r m.next_id (parts_in m xs)) (receipts_silent m.out q.out) (numbered_silent r m.next_id m.limit m.number m.blobs xs aside),
    );
    by = tt;
  }

-- messages of a protocol that do not concern subscriptions
aside_sayings : {M : Type 0} (wrap : M → Message) → ((x : M) → speaks (wrap x) ≡ false) → (xs : List (Sending M)) → AllByRecursion IsAside (sayings_of wrap xs)
aside_sayings wrap silent [] = tt
aside_sayings wrap silent (Reply m ∷ xs) = ((silent m, refl), aside_sayings wrap silent xs)
aside_sayings wrap silent (Refusal code ∷ xs) = ((refl, refl), aside_sayings wrap silent xs)
aside_sayings wrap silent (RefusedKeys keys ∷ xs) = ((refl, refl), aside_sayings wrap silent xs)
aside_sayings wrap silent (Notice m ∷ xs) = ((silent m, refl), aside_sayings wrap silent xs)

-- ---- what a call is answered

-- a subscription that is accepted starts where the call says, after these entries
abbrev FairReply : List Entry → List (List ℕ × StartAsk) → StoreReply → Type 0
FairReply before asks (answer.Started rs) = AreFair before asks rs
FairReply before asks _ = Unit {0}

abbrev FairAt : Option (List Entry) → ℕ → List (List ℕ × StartAsk) → StoreReply → Type 0
FairAt None mark asks a = ⊥
FairAt (Some before) mark asks a = (mark ≡ length before) × FairReply before asks a

abbrev pub IsFair : Option (List Entry) → StoreCall → Answer → Type 0
IsFair known (call.Subscribe asks) a = FairAt known a.mark asks a.reply
IsFair known _ a = Unit {0}

-- ---- one event

module _ (e : Event) (v : Subbed) (known : Option (List Entry)) where
  -- what the event leads to
  abbrev pub Leads : State → Option StoreCall → Type 0
  Leads t None = LiveState t → Says e v known t
  Leads t (Some call) = IsQuiet v t × ((a : Answer) → IsFair known call a → LiveState (given t a) → Says e v known (given t a))

  abbrev pub LeadsTo : Taken → Type 0
  LeadsTo t = Leads t.state t.call

  quiet_leads : (t : State) → IsQuiet v t → LeadsTo (no_call t)
  quiet_leads t q live = silent_says e v known t q

  aside_leads : (r : Request) (xs : List Saying) (m : State) → AllByRecursion IsAside xs → IsQuiet v m → LeadsTo (no_call (said r xs m))
  aside_leads r xs m aside q live = aside_says e v known r xs m aside q live

  refuses_lead : (r : Request) (c : ErrorCode) (m : State) → IsQuiet v m → LeadsTo (no_call (refuses r c m))
  refuses_lead r c m q = aside_leads r (to_request (refusal c) ∷ []) m ((refl, refl), tt) q

  -- ---- the protocols without subscriptions

  objects_say : (r : Request) (x : ObjectsAnswered) (m : State) → IsQuiet v m → LiveState (on_objects_answered r x m) → Says e v known (on_objects_answered r x m)
  objects_say r x m q live = aside_says e v known r (sayings_of message.Store x.sendings) (record m { stage = x.stage }) (aside_sayings message.Store (λ y. refl) x.sendings) (record { subs = q.subs; out = q.out }) live

  arrays_say : (r : Request) (x : ArraysAnswered) (m : State) → IsQuiet v m → LiveState (on_arrays_answered r x m) → Says e v known (on_arrays_answered r x m)
  arrays_say r x m q live = aside_says e v known r (sayings_of message.DataArray x.sendings) (record m { stage = x.stage }) (aside_sayings message.DataArray (λ y. refl) x.sendings) (record { subs = q.subs; out = q.out }) live

  away_says : (p : Pending) → IsAway p → (a : Answer) (m : State) → IsQuiet v m → LiveState (given_to (Some p) a m) → Says e v known (given_to (Some p) a m)
  away_says (pending.Dataspaces r p) is a m q live = aside_says e v known r (sayings_of message.Dataspace (dataspace_reply p a.reply)) m (aside_sayings message.Dataspace (λ y. refl) (dataspace_reply p a.reply)) q live
  away_says (pending.Objects r p) is a m q live = objects_say r (object_reply m.stage p a.reply) m q live
  away_says (pending.Arrays r p) is a m q live = arrays_say r (array_reply m.limit m.stage p a.reply) m q live
  away_says (pending.Staged r keys (staged.Objects p)) is a m q live =
      objects_say r (object_reply (noting a.mark keys m.stage) p (reply_noted a.mark keys m.stage a.reply)) (record m { stage = noting a.mark keys m.stage }) (record { subs = q.subs; out = q.out }) live
  away_says (pending.Staged r keys (staged.Arrays p)) is a m q live =
      arrays_say r (array_reply m.limit (noting a.mark keys m.stage) p (reply_noted a.mark keys m.stage a.reply)) (record m { stage = noting a.mark keys m.stage }) (record { subs = q.subs; out = q.out }) live
  away_says (pending.Transactions r p) is a m q live = aside_says e v known r (sayings_of message.Transaction (transaction_reply p a.reply)) m (aside_sayings message.Transaction (λ y. refl) (transaction_reply p a.reply)) q live
  away_says (pending.Loads r p) is a m q live =
      let x : Loaded = load_reply m.config.channels m.opens p a.reply in
      aside_says e v known r (sayings_of message.ChannelDataLoad x.sendings) (record m { opens = x.opens }) (aside_sayings message.ChannelDataLoad (λ y. refl) x.sendings) (record { subs = q.subs; out = q.out }) live
  away_says (pending.Subscriptions r p) is a m q live = absurd is

  asks_lead : (p : Pending) → IsAway p → (c : StoreCall) (m : State) → IsQuiet v m → LeadsTo (asks p c m)
  asks_lead p is c m q = (record { subs = q.subs; out = q.out }, λ a fair live. away_says p is a (record m { pending = None }) (record { subs = q.subs; out = q.out }) live)

  dataspaces_lead : (r : Request) (o : DataspaceOutcome) (m : State) → IsQuiet v m → LeadsTo (on_outcome message.Dataspace pending.Dataspaces r o m)
  dataspaces_lead r (Replies sendings) m q = aside_leads r _ m (aside_sayings message.Dataspace (λ x. refl) sendings) q
  dataspaces_lead r (Calls c p) m q = asks_lead (pending.Dataspaces r p) tt c m q

  objects_lead : (r : Request) (o : ObjectOutcome) (m : State) → IsQuiet v m → LeadsTo (on_objects r o m)
  objects_lead r (Replies sendings) m q = aside_leads r _ m (aside_sayings message.Store (λ x. refl) sendings) q
  objects_lead r (Calls c p) m q = asks_lead (objects_kept m.stage r c p) (away_objects m.stage r c p) c m q

  arrays_lead : (r : Request) (o : ArrayOutcome) (m : State) → IsQuiet v m → LeadsTo (on_arrays r o m)
  arrays_lead r (Replies sendings) m q = aside_leads r _ m (aside_sayings message.DataArray (λ x. refl) sendings) q
  arrays_lead r (Calls c p) m q = asks_lead (arrays_kept m.stage r c p) (away_arrays m.stage r c p) c m q

  loads_lead : (r : Request) (o : LoadOutcome) (m : State) → IsQuiet v m → LeadsTo (on_outcome message.ChannelDataLoad pending.Loads r o m)
  loads_lead r (Replies sendings) m q = aside_leads r _ m (aside_sayings message.ChannelDataLoad (λ x. refl) sendings) q
  loads_lead r (Calls c p) m q = asks_lead (pending.Loads r p) tt c m q

  transactions_lead : (r : Request) (o : TransactionOutcome) (m : State) → IsQuiet v m → LeadsTo (on_outcome message.Transaction pending.Transactions r o m)
  transactions_lead r (Replies sendings) m q = aside_leads r _ m (aside_sayings message.Transaction (λ x. refl) sendings) q
  transactions_lead r (Calls c p) m q = asks_lead (pending.Transactions r p) tt c m q

  -- ---- puts that await chunks

  whole_leads : (r : Request) (moment : ℤ) (x : Message) (m : State) → IsQuiet v m → LeadsTo (on_whole r moment x m)
  whole_leads r moment (message.Store x) m q = objects_lead r (object_outcome m.formats m.config.types m.stage moment x) m q
  whole_leads r moment _ m q = quiet_leads m q

  joined_leads : (hd : Header) (moment : ℤ) (r : Request) (j : Result (Joined × Option Awaited) JoinError) (m : State) → IsQuiet v m → LeadsTo (on_joined hd moment r j m)
  joined_leads hd moment r (Err x) m q = refuses_lead (request_of hd) (join_code x) (record m { joiner = None }) (record { subs = q.subs; out = q.out })
  joined_leads hd moment r (Ok (More, w)) m q = quiet_leads (record m { joiner = w }) (record { subs = q.subs; out = q.out })
  joined_leads hd moment r (Ok (Whole x, w)) m q = whole_leads r moment x (record m { joiner = w }) (record { subs = q.subs; out = q.out })

  put_leads : (only : Bool) (hd : Header) (moment : ℤ) (x : StoreMessage) (m : State) → IsQuiet v m → LeadsTo (if only then no_call (refuses (request_of hd) code.RequestDenied m) else on_join hd moment x m)
  put_leads true hd moment x m q = refuses_lead (request_of hd) code.RequestDenied m q
  put_leads false hd moment x m q = joined_leads hd moment (put_request hd m.joiner) (joins m.joiner hd (message.Store x)) m q

  store_leads : (hd : Header) (moment : ℤ) (x : StoreMessage) (m : State) → IsQuiet v m → LeadsTo (on_store hd moment x m)
  store_leads hd moment (object.PutDataObjects x) m q = put_leads (is_read_only m.stage) hd moment (object.PutDataObjects x) m q
  store_leads hd moment (object.Chunk x) m q = joined_leads hd moment (put_request hd m.joiner) (joins m.joiner hd (message.Store (object.Chunk x))) m q
  store_leads hd moment x m q = whole_leads (request_of hd) moment (message.Store x) m q

  -- ---- Core

  opened_leads : (r : Request) (o : Opening) (m : State) → IsQuiet v m → LeadsTo (no_call (opened r o m))
  opened_leads r (opens.Refused c) m q = refuses_lead r c (record m { phase = _ }) (record { subs = q.subs; out = q.out })
  opened_leads r (opens.Opened accepted formats limit x) m q =
      aside_leads r (to_request (message.Core (core.OpenSession x)) ∷ []) (record m { phase = phase.Live live.Open; accepted = accepted; formats = formats; limit = limit }) ((refl, refl), tt) (record { subs = q.subs; out = q.out })

  request_leads : (l : Live) (r : Request) (moment : ℤ) (x : RequestSession) (m : State) → IsQuiet v m → LeadsTo (no_call (on_request_session l r moment x m))
  request_leads live.Waiting r moment x m q = opened_leads r (opening_of m.config m.number moment x) m q
  request_leads live.Open r moment x m q = refuses_lead r code.InvalidState m q

  ping_leads : (l : Live) (r : Request) (moment : ℤ) (m : State) → IsQuiet v m → LeadsTo (no_call (on_ping l r moment m))
  ping_leads live.Waiting r moment m q = refuses_lead r code.InvalidState m q
  ping_leads live.Open r moment m q = aside_leads r (to_request (message.Core (core.Pong (record { current_date_time = moment }))) ∷ []) m ((refl, refl), tt) q

  core_leads : (l : Live) (r : Request) (moment : ℤ) (x : CoreMessage) (m : State) → IsQuiet v m → LeadsTo (no_call (on_core l r moment x m))
  core_leads l r moment (core.RequestSession x) m q = request_leads l r moment x m q
  core_leads l r moment (core.OpenSession x) m q = refuses_lead r code.InvalidMessageType m q
  core_leads l r moment (core.CloseSession x) m q = quiet_leads (record m { phase = _ }) (record { subs = q.subs; out = q.out })
  core_leads l r moment (core.Ping x) m q = ping_leads l r moment m q
  core_leads l r moment (core.Pong x) m q = quiet_leads m q
  core_leads l r moment (core.ProtocolException x) m q = quiet_leads m q
  core_leads l r moment (core.Acknowledge x) m q = quiet_leads m q

  -- ---- requests about subscriptions that send nothing of them

  aside_replies : {R : Type 0} (response : List (List ℕ × R) → ChannelSubscribeMessage) → ((g : List (List ℕ × R)) → subscribe_speaks (response g) ≡ false) → (gs : List (List ℕ × R)) (rs : List (List ℕ × ErrorCode))
      → AllByRecursion IsAside (sayings_of message.ChannelSubscribe (keyed_replies response gs rs))
  aside_replies response silent [] [] = ((silent [], refl), tt)
  aside_replies response silent [] (r ∷ rs) = ((refl, refl), tt)
  aside_replies response silent (g ∷ gs) [] = ((silent (g ∷ gs), refl), tt)
  aside_replies response silent (g ∷ gs) (r ∷ rs) = ((silent (g ∷ gs), refl), ((refl, refl), tt))

  -- with no key granted
  unasked_aside : (rs : List (List ℕ × ErrorCode)) → AllByRecursion IsAside (sayings_of message.ChannelSubscribe (keyed_replies subscribe_response [] rs))
  unasked_aside [] = ((refl, refl), tt)
  unasked_aside (r ∷ rs) = ((refl, refl), tt)

  replies_lead : (r : Request) (sendings : List (Sending ChannelSubscribeMessage)) (m : State) → AllByRecursion IsAside (sayings_of message.ChannelSubscribe sendings) → IsQuiet v m → LeadsTo (on_outcome message.ChannelSubscribe pending.Subscriptions r (Replies sendings) m)
  replies_lead r sendings m aside q = aside_leads r (sayings_of message.ChannelSubscribe sendings) m aside q

  told_aside : (r : Request) (t : Told) (m : State) → t.subs ≡ v → AllByRecursion IsAside (sayings_of message.ChannelSubscribe t.sendings) → IsQuiet v m → LiveState (on_subscriptions_answered r t m) → Says e v known (on_subscriptions_answered r t m)
  told_aside r t m same aside q live = aside_says e v known r (sayings_of message.ChannelSubscribe t.sendings) (record m { subs = t.subs }) aside (record { subs = same; out = q.out }) live

  metadata_says : (defs : List ChannelDef) (limit : ℕ) (r : Request) (items : List (List ℕ × Decision (Unit {0}))) (mark : ℕ) (a : StoreReply) (m : State) → IsQuiet v m
      → LiveState (on_subscriptions_answered r (replied defs limit mark m.subs (keeps_subscription.Metadata items) a) m) → Says e v known (on_subscriptions_answered r (replied defs limit mark m.subs (keeps_subscription.Metadata items) a) m)
  metadata_says defs limit r items mark (answer.Metas metas) m q live = told_aside r (replied defs limit mark m.subs (keeps_subscription.Metadata items) (answer.Metas metas)) m q.subs (aside_replies metadata_response (λ g. refl) _ _) q live
  metadata_says defs limit r items mark (answer.Points points) m q live = told_aside r (replied defs limit mark m.subs (keeps_subscription.Metadata items) (answer.Points points)) m q.subs tt q live
  metadata_says defs limit r items mark (answer.Started started) m q live = told_aside r (replied defs limit mark m.subs (keeps_subscription.Metadata items) (answer.Started started)) m q.subs tt q live
  metadata_says defs limit r items mark (answer.News upto lag changes) m q live = told_aside r (replied defs limit mark m.subs (keeps_subscription.Metadata items) (answer.News upto lag changes)) m q.subs tt q live
  metadata_says defs limit r items mark (answer.Refused code) m q live = told_aside r (replied defs limit mark m.subs (keeps_subscription.Metadata items) (answer.Refused code)) m q.subs ((refl, refl), tt) q live
  metadata_says defs limit r items mark a m q live = told_aside r (replied defs limit mark m.subs (keeps_subscription.Metadata items) a) m q.subs tt q live

  ranges_says : (defs : List ChannelDef) (limit : ℕ) (r : Request) (mark : ℕ) (a : StoreReply) (m : State) → IsQuiet v m
      → LiveState (on_subscriptions_answered r (replied defs limit mark m.subs keeps_subscription.Ranges a) m) → Says e v known (on_subscriptions_answered r (replied defs limit mark m.subs keeps_subscription.Ranges a) m)
  ranges_says defs limit r mark (answer.Metas metas) m q live = told_aside r (replied defs limit mark m.subs keeps_subscription.Ranges (answer.Metas metas)) m q.subs tt q live
  ranges_says defs limit r mark (answer.Points points) m q live = told_aside r (replied defs limit mark m.subs keeps_subscription.Ranges (answer.Points points)) m q.subs ((refl, refl), tt) q live
  ranges_says defs limit r mark (answer.Started started) m q live = told_aside r (replied defs limit mark m.subs keeps_subscription.Ranges (answer.Started started)) m q.subs tt q live
  ranges_says defs limit r mark (answer.News upto lag changes) m q live = told_aside r (replied defs limit mark m.subs keeps_subscription.Ranges (answer.News upto lag changes)) m q.subs tt q live
  ranges_says defs limit r mark (answer.Refused code) m q live = told_aside r (replied defs limit mark m.subs keeps_subscription.Ranges (answer.Refused code)) m q.subs ((refl, refl), tt) q live
  ranges_says defs limit r mark a m q live = told_aside r (replied defs limit mark m.subs keeps_subscription.Ranges a) m q.subs tt q live

  metadata_leads : (r : Request) (items : List (List ℕ × Decision (Unit {0}))) (uris : _) (m : State) → IsQuiet v m → LeadsTo (on_outcome message.ChannelSubscribe pending.Subscriptions r (metadata_call (called metadata_response items uris)) m)
  metadata_leads r items [] m q = replies_lead r (unasked metadata_response items) m (aside_replies metadata_response (λ g. refl) [] (refused_keys items)) q
  metadata_leads r items (x ∷ xs) m q = (
    record { subs = q.subs; out = q.out },
    λ a fair live. metadata_says m.config.channels m.config.lag r items a.mark a.reply (record m { pending = None }) (record { subs = q.subs; out = q.out }) live,
  )

  ranges_lead : (r : Request) (c : StoreCall) (m : State) → IsQuiet v m → LeadsTo (on_outcome message.ChannelSubscribe pending.Subscriptions r (Calls c keeps_subscription.Ranges) m)
  ranges_lead r c m q = (
    record { subs = q.subs; out = q.out },
    λ a fair live. ranges_says m.config.channels m.config.lag r a.mark a.reply (record m { pending = None }) (record { subs = q.subs; out = q.out }) live,
  )

  unless_leads : (r : Request) (why : Option ErrorCode) (o : SubscribeOutcome) (m : State) → IsQuiet v m → LeadsTo (on_outcome message.ChannelSubscribe pending.Subscriptions r o m) → LeadsTo (on_outcome message.ChannelSubscribe pending.Subscriptions r (unless_refused why o) m)
  unless_leads r (Some code) o m q leads = replies_lead r (refusal_alone code) m ((refl, refl), tt) q
  unless_leads r None o m q leads = leads

  -- ---- UnsubscribeChannels

  abbrev IsUnsubscribe : Header → UnsubscribeChannels → Type 0
  IsUnsubscribe hd x = IsRead e hd (message.ChannelSubscribe (subscribe.UnsubscribeChannels x))

  stopping_leads : (hd : Header) (x : UnsubscribeChannels) (w : Subbed) (m : State) → IsUnsubscribe hd x → w ≡ v → IsQuiet v m
      → LeadsTo (on_outcome message.ChannelSubscribe pending.Subscriptions (request_of hd) (Replies (request_reply (stop_response Unsubscribed) (checked stop_one w x.channel_ids))) (record m { subs = checked_state stop_one w x.channel_ids }))
  stopping_leads hd x w m read is q live =
      let matter : Matter = Ends hd x (checked stop_one w x.channel_ids) in
      record {
        matter = matter;
        parts = sent_first matter (record m { subs = checked_state stop_one w x.channel_ids }) q.out refl (unspent (is_spent m.next_id (parts_in m (first_in matter))) m.phase live);
        means = (
          read,
          ap (λ (y : Subbed). checked stop_one y x.channel_ids) is,
          ap (λ (y : Subbed). checked_state stop_one y x.channel_ids) is,
          λ c f. kept_after (λ (l : List Sub). sub_of c l ≡ None) (λ d l g. absent-others c d l g) w x.channel_ids (ap (λ (y : Subbed). sub_of c y.subs) is ∙ f),
        );
        by = tt;
      }

  leaving_leads : (hd : Header) (x : UnsubscribeChannels) (why : Option ErrorCode) (w : Subbed) (m : State) → IsUnsubscribe hd x → w ≡ v → IsQuiet v m
      → LeadsTo (on_subscriptions (request_of hd) (unless_leaving why w (stop_outcome w x.channel_ids)) m)
  leaving_leads hd x (Some code) w m read is q = replies_lead (request_of hd) (refusal_alone code) (record m { subs = w }) ((refl, refl), tt) (record { subs = is; out = q.out })
  leaving_leads hd x None w m read is q = stopping_leads hd x w m read is q

  -- ---- SubscribeChannels

  says_both : (matter : Matter) (m : State) (xs : List Saying) → xs ≡ first_in matter ++ notices_of (changes_in matter) → AllByRecursion IsReceipt m.out → LiveState (said (request_in matter) xs m)
      → IsSent matter (said (request_in matter) xs m).out
  says_both matter m xs split received live =
      subst (λ (l : List Saying). LiveState (said (request_in matter) l m) → IsSent matter (said (request_in matter) l m).out) (sym split)
      (λ alive. sent_both matter m received (unspent (is_spent m.next_id (parts_in m (first_in matter ++ notices_of (changes_in matter)))) m.phase alive)) live

  notice_each : (cs : List ChannelChange) → map Notice (map told_as cs) ≡ map notice cs
  notice_each [] = refl
  notice_each (c ∷ cs) = ap (λ l. notice c ∷ l) (notice_each cs)

  abbrev IsSubscribe : Header → SubscribeChannels → Type 0
  IsSubscribe hd x = IsRead e hd (message.ChannelSubscribe (subscribe.SubscribeChannels x))

  abbrev asked_of : Subbed → SubscribeChannels → List (List ℕ × Decision StartAsk)
  asked_of w x = checked (subscribe_one w.subs) none_named x.channels

  abbrev told_started : ℕ → Subbed → SubscribeChannels → List (List ℕ × StartReply) → Told
  told_started mark w x rs = started_reply mark w (keeps_subscription.Subscribe (kept (λ a. a) (asked_of w x))) rs

  begun_say : (hd : Header) (x : SubscribeChannels) (m : State) (before : List Entry) (rs : List (List ℕ × StartReply)) → IsSubscribe hd x → AllByRecursion IsReceipt m.out → known ≡ Some before → AreFair before (sent_keys (λ a. a) (asked_of v x)) rs
      → LiveState (on_subscriptions_answered (request_of hd) (told_started (length before) v x rs) m) → Says e v known (on_subscriptions_answered (request_of hd) (told_started (length before) v x rs) m)
  begun_say hd x m before rs read received by fair live =
      let ds : List (List ℕ × Decision StartAsk) = kept (λ a. a) (asked_of v x) in
      let b : Beginning = finished_state (begin_one (length before)) 1 (beginning v) ds rs in
      let decided : List (List ℕ × Decision (List ℕ)) = finished (begin_one (length before)) 1 (beginning v) ds rs in
      let reply : List (Sending ChannelSubscribeMessage) = request_reply subscribe_response decided in
      let d : Decides before v (beginning v) b x.channels decided = all_decide before v x.channels none_named (beginning v) rs fair (record { fresh = λ c f g. g; few = omega arith }) in
      let matter : Matter = Begins hd x before decided d.new in
      let split : sayings_of message.ChannelSubscribe (reply ++ map Notice b.notices) ≡ sayings_of message.ChannelSubscribe reply ++ notices_of d.new =
      sayings_append reply (map Notice b.notices)
      ∙ ap (λ l. sayings_of message.ChannelSubscribe reply ++ l) (ap (λ l. sayings_of message.ChannelSubscribe (map Notice l)) d.notes ∙ ap (sayings_of message.ChannelSubscribe) (notice_each d.new)) in
      record {
        matter = matter;
        parts = says_both matter (record m { subs = b.subs }) (sayings_of message.ChannelSubscribe (reply ++ map Notice b.notices)) split received live;
        means = (read, d.each, (d.only, d.stays), d.news);
        by = by;
      }

  begins_say : (hd : Header) (x : SubscribeChannels) (w : Subbed) (m : State) (mark : ℕ) (rs : List (List ℕ × StartReply)) (o : Option (List Entry)) → IsSubscribe hd x → w ≡ v → IsQuiet v m → known ≡ o → FairAt o mark (sent_keys (λ a. a) (asked_of w x)) (answer.Started rs)
      → LiveState (on_subscriptions_answered (request_of hd) (told_started mark w x rs) m) → Says e v known (on_subscriptions_answered (request_of hd) (told_started mark w x rs) m)
  begins_say hd x w m mark rs None read is q by fair = absurd fair
  begins_say hd x w m mark rs (Some before) read is q by fair =
      subst (λ (n : ℕ). LiveState (on_subscriptions_answered (request_of hd) (told_started n w x rs) m) → Says e v known (on_subscriptions_answered (request_of hd) (told_started n w x rs) m)) (sym fair.0)
      (subst (λ (y : Subbed). AreFair before (sent_keys (λ a. a) (asked_of y x)) rs → LiveState (on_subscriptions_answered (request_of hd) (told_started (length before) y x rs) m)
      → Says e v known (on_subscriptions_answered (request_of hd) (told_started (length before) y x rs) m)) (sym is) (begun_say hd x m before rs read q.out by) fair.1)

  abbrev told_by : List ChannelDef → ℕ → ℕ → State → SubscribeChannels → StoreReply → Told
  told_by defs limit mark m x a = replied defs limit mark m.subs (keeps_subscription.Subscribe (kept (λ a. a) (asked_of m.subs x))) a

  subscribed_says : (defs : List ChannelDef) (limit : ℕ) (hd : Header) (x : SubscribeChannels) (mark : ℕ) (a : StoreReply) (m : State) → IsSubscribe hd x → IsQuiet v m → FairAt known mark (sent_keys (λ a. a) (asked_of m.subs x)) a
      → LiveState (on_subscriptions_answered (request_of hd) (told_by defs limit mark m x a) m) → Says e v known (on_subscriptions_answered (request_of hd) (told_by defs limit mark m x a) m)
  subscribed_says defs limit hd x mark (answer.Metas metas) m read q fair live = told_aside (request_of hd) (told_by defs limit mark m x (answer.Metas metas)) m q.subs tt q live
  subscribed_says defs limit hd x mark (answer.Points points) m read q fair live = told_aside (request_of hd) (told_by defs limit mark m x (answer.Points points)) m q.subs tt q live
  subscribed_says defs limit hd x mark (answer.Started rs) m read q fair live = begins_say hd x m.subs m mark rs known read q.subs q refl fair live
  subscribed_says defs limit hd x mark (answer.News upto lag changes) m read q fair live = told_aside (request_of hd) (told_by defs limit mark m x (answer.News upto lag changes)) m q.subs tt q live
  subscribed_says defs limit hd x mark (answer.Refused code) m read q fair live = told_aside (request_of hd) (told_by defs limit mark m x (answer.Refused code)) m q.subs ((refl, refl), tt) q live
  subscribed_says defs limit hd x mark a m read q fair live = told_aside (request_of hd) (told_by defs limit mark m x a) m q.subs tt q live

  begins_lead : (hd : Header) (x : SubscribeChannels) (m : State) → IsSubscribe hd x → IsQuiet v m → LeadsTo (on_outcome message.ChannelSubscribe pending.Subscriptions (request_of hd) (begin_outcome m.subs.subs x.channels) m)
  begins_lead hd x m read q = by (sent_keys (λ a. a) (asked_of m.subs x)) refl
    where
      by : (asks : List (List ℕ × StartAsk)) → sent_keys (λ a. a) (asked_of m.subs x) ≡ asks
          → LeadsTo (on_outcome message.ChannelSubscribe pending.Subscriptions (request_of hd) (subscribe_call (called subscribe_response (kept (λ a. a) (asked_of m.subs x)) asks)) m)
      by [] f = replies_lead (request_of hd) (unasked subscribe_response (kept (λ a. a) (asked_of m.subs x))) m (unasked_aside (refused_keys (kept (λ a. a) (asked_of m.subs x)))) q
      by (y ∷ ys) f = (
        record { subs = q.subs; out = q.out },
        λ a fair live. subscribed_says m.config.channels m.config.lag hd x a.mark a.reply (record m { pending = None }) read (record { subs = q.subs; out = q.out }) (subst (λ l. FairAt known a.mark l a.reply) (sym f) fair) live,
      )

  -- ---- a message

  subscribing_leads : (hd : Header) (x : ChannelSubscribeMessage) (m : State) → IsRead e hd (message.ChannelSubscribe x) → IsQuiet v m → LeadsTo (on_subscriptions (request_of hd) (subscribe_outcome m.subs x) m)
  subscribing_leads hd (subscribe.GetChannelMetadata x) m read q =
      let items = checked (λ s uri. (s, object_uri uri)) nothing x.uris in
      unless_leads (request_of hd) (keys_refusal x.uris) (metadata_outcome x.uris) m q (metadata_leads (request_of hd) (kept (λ uri. nothing) items) (sent_keys (λ uri. uri) items) m q)
  subscribing_leads hd (subscribe.SubscribeChannels x) m read q = unless_leads (request_of hd) (keys_refusal x.channels) (begin_outcome m.subs.subs x.channels) m q (begins_lead hd x m read q)
  subscribing_leads hd (subscribe.UnsubscribeChannels x) m read q = leaving_leads hd x (keys_refusal x.channel_ids) m.subs m read q.subs q
  subscribing_leads hd (subscribe.GetRanges x) m read q =
      unless_leads (request_of hd) (ranges_refusal x.channel_ranges) (Calls (call.Range (asks_of x.channel_ranges)) keeps_subscription.Ranges) m q (ranges_lead (request_of hd) (call.Range (asks_of x.channel_ranges)) m q)
  subscribing_leads hd (subscribe.GetChannelMetadataResponse x) m read q = replies_lead (request_of hd) (refusal_alone code.InvalidMessageType) m ((refl, refl), tt) q
  subscribing_leads hd (subscribe.ChannelData x) m read q = replies_lead (request_of hd) (refusal_alone code.InvalidMessageType) m ((refl, refl), tt) q
  subscribing_leads hd (subscribe.RangeReplaced x) m read q = replies_lead (request_of hd) (refusal_alone code.InvalidMessageType) m ((refl, refl), tt) q
  subscribing_leads hd (subscribe.SubscriptionsStopped x) m read q = replies_lead (request_of hd) (refusal_alone code.InvalidMessageType) m ((refl, refl), tt) q
  subscribing_leads hd (subscribe.GetRangesResponse x) m read q = replies_lead (request_of hd) (refusal_alone code.InvalidMessageType) m ((refl, refl), tt) q
  subscribing_leads hd (subscribe.SubscribeChannelsResponse x) m read q = replies_lead (request_of hd) (refusal_alone code.InvalidMessageType) m ((refl, refl), tt) q
  subscribing_leads hd (subscribe.ChannelsTruncated x) m read q = replies_lead (request_of hd) (refusal_alone code.InvalidMessageType) m ((refl, refl), tt) q

  row_leads : (hd : Header) (moment : ℤ) (x : Message) (m : State) → IsRead e hd x → IsQuiet v m → LeadsTo (on_row hd moment x m)
  row_leads hd moment (message.Dataspace x) m read q = dataspaces_lead (request_of hd) (dataspace_outcome x (is_some m.stage)) m q
  row_leads hd moment (message.Store x) m read q = store_leads hd moment x m q
  row_leads hd moment (message.DataArray x) m read q = arrays_lead (request_of hd) (array_outcome m.stage moment x) m q
  row_leads hd moment (message.ChannelSubscribe x) m read q = subscribing_leads hd x m read q
  row_leads hd moment (message.ChannelDataLoad x) m read q =
      loads_lead (request_of hd) (load_outcome m.opens moment x).outcome (record m { opens = (load_outcome m.opens moment x).opens }) (record { subs = q.subs; out = q.out })
  row_leads hd moment (message.Core x) m read q = refuses_lead (request_of hd) code.InvalidMessageType m q
  row_leads hd moment (message.Transaction x) m read q =
      let t = transaction_request m.config.instance m.number m.stage m.starts x in
      transactions_lead (request_of hd) t.outcome (record m { stage = t.stage; starts = t.starts }) (record { subs = q.subs; out = q.out })

  protocol_leads : (why : Option ErrorCode) (hd : Header) (moment : ℤ) (x : Message) (m : State) → IsRead e hd x → IsQuiet v m → LeadsTo (on_protocol why hd moment x m)
  protocol_leads (Some c) hd moment x m read q = refuses_lead (request_of hd) c m q
  protocol_leads None hd moment x m read q = row_leads hd moment x m read q

  message_leads : (l : Live) (hd : Header) (moment : ℤ) (x : Message) (m : State) → IsRead e hd x → IsQuiet v m → LeadsTo (on_message l hd moment x m)
  message_leads l hd moment (message.Core x) m read q = core_leads l (request_of hd) moment x m q
  message_leads l hd moment x m read q = protocol_leads (protocol_refusal l m.accepted hd.protocol) hd moment x m read q

  received_leads : (p : Phase) (hd : Header) (moment : ℤ) (x : Message) (m : State) → IsRead e hd x → IsQuiet v m → LeadsTo (on_received p hd moment x m)
  received_leads (phase.Live l) hd moment x m read q = message_leads l hd moment x m read q
  received_leads (phase.Ended end) hd moment x m read q = quiet_leads m q

  -- ---- the receipt

  receipt_sent : (r : Request) (id : ℕ) (t : Bool) → AllByRecursion IsReceipt (if t then outgoing r id (replies_in []) (record { to = to.Receipt; message = receipt.message; last = true }) ∷ [] else [])
  receipt_sent r id true = (refl, tt)
  receipt_sent r id false = tt

  receipt_quiet : (b : Bool) (hd : Header) (m : State) → IsQuiet v m → IsQuiet v (if b then said (request_of hd) (receipt ∷ []) m else m)
  receipt_quiet true hd m q = record {
    subs = q.subs;
    out = all-append IsReceipt m.out (numbered (request_of hd) m.next_id (parts_in m (receipt ∷ []))) q.out (receipt_sent (request_of hd) m.next_id (nat_le m.next_id max_id));
  }
  receipt_quiet false hd m q = q

-- ---- a poll

has_as : (w : Subbed) (c : ChannelChange) → has_sub c.channel w.subs ≡ true → (ws : List What) → AllByRecursion (λ (x : ChannelChange). has_sub x.channel w.subs ≡ true) (map (λ x. record c { what = x }) ws)
has_as w c has [] = tt
has_as w c has (x ∷ ws) = (has, has_as w c has ws)

has_to : (w : Subbed) (c : ChannelChange) (o : Option Sub) → sub_of c.channel w.subs ≡ o → AllByRecursion (λ (x : ChannelChange). has_sub x.channel w.subs ≡ true) (told_to o c)
has_to w c None f = tt
has_to w c (Some s) f = has_as w c (ap is_some f) (view s.start s.all c.what)

has_told : (w : Subbed) (xs : List ChannelChange) → AllByRecursion (λ (x : ChannelChange). has_sub x.channel w.subs ≡ true) (flat_map (told w.subs) xs)
has_told w [] = tt
has_told w (x ∷ xs) = all-append (λ (x : ChannelChange). has_sub x.channel w.subs ≡ true) (told w.subs x) (flat_map (told w.subs) xs) (has_to w x (sub_of x.channel w.subs) refl) (has_told w xs)

told_both : (w : Subbed) (xs : List ChannelChange) → AreSolid xs → AllByRecursion (λ (x : ChannelChange). has_sub x.channel w.subs ≡ true) xs → AllByRecursion (IsToldTo w) xs
told_both w [] solid has = tt
told_both w (x ∷ xs) solid has = ((solid.0, has.0), told_both w xs solid.1 has.1)

told_all : (w : Subbed) (xs : List ChannelChange) → AllByRecursion (IsToldTo w) (flat_map (told w.subs) xs)
told_all w xs = told_both w (flat_map (told w.subs) xs) (solid_told w.subs xs) (has_told w xs)

module _ (e : Event) (v : Subbed) (known : Option (List Entry)) (poll : IsPoll e) (none : v.pending ≡ []) where
  abbrev News : List ChannelDef → ℕ → ℕ → State → StoreReply → State
  News defs limit mark m a = on_subscriptions_answered unread (replied defs limit mark m.subs keeps_subscription.News a) m

  abbrev told_news : Option StopCause → ℕ → List ChannelChange → State → State
  told_news cause upto changes m = on_subscriptions_answered unread (news_told cause upto changes m.subs) m

  stops_say : (lag upto : ℕ) (changes : List ChannelChange) (m : State) → IsQuiet v m → LiveState (told_news (Some (Lagged lag)) upto changes m) → Says e v known (told_news (Some (Lagged lag)) upto changes m)
  stops_say lag upto changes m q live =
      let matter : Matter = Stops lag (ids_of m.subs.subs) in
      record {
        matter = matter;
        parts = sent_first matter (record m { subs = record m.subs { subs = [] } }) q.out refl (unspent (is_spent m.next_id (parts_in m (first_in matter))) m.phase live);
        means = (poll, refl);
        by = tt;
      }

  tells_say : (upto : ℕ) (changes : List ChannelChange) (m : State) → IsQuiet v m → LiveState (told_news None upto changes m) → Says e v known (told_news None upto changes m)
  tells_say upto changes m q live =
      let cs : List ChannelChange = flat_map (told m.subs.subs) changes in
      let matter : Matter = Tells cs in
      record {
        matter = matter;
        parts = says_both e v known matter (record m { subs = record m.subs { cursor = upto; pending = [] } }) (notices_of (m.subs.pending ++ cs)) (ap (λ l. notices_of (l ++ cs)) (ap (λ (y : Subbed). y.pending) q.subs ∙ none)) q.out live;
        means = (poll, ap (λ (y : Subbed). y.subs) q.subs, subst (λ (y : Subbed). AllByRecursion (IsToldTo y) cs) q.subs (told_all m.subs changes));
        by = tt;
      }

  changes_say : (b : Bool) (lag upto : ℕ) (changes : List ChannelChange) (m : State) → IsQuiet v m → LiveState (told_news (if b then Some (Lagged lag) else None) upto changes m)
      → Says e v known (told_news (if b then Some (Lagged lag) else None) upto changes m)
  changes_say true lag upto changes m q live = stops_say lag upto changes m q live
  changes_say false lag upto changes m q live = tells_say upto changes m q live

  news_say : (defs : List ChannelDef) (limit mark : ℕ) (a : StoreReply) (m : State) → IsQuiet v m → LiveState (News defs limit mark m a) → Says e v known (News defs limit mark m a)
  news_say defs limit mark (answer.Metas metas) m q live = told_aside e v known unread (replied defs limit mark m.subs keeps_subscription.News (answer.Metas metas)) m q.subs tt q live
  news_say defs limit mark (answer.Points points) m q live = told_aside e v known unread (replied defs limit mark m.subs keeps_subscription.News (answer.Points points)) m q.subs tt q live
  news_say defs limit mark (answer.Started started) m q live = told_aside e v known unread (replied defs limit mark m.subs keeps_subscription.News (answer.Started started)) m q.subs tt q live
  news_say defs limit mark (answer.News upto lag changes) m q live = changes_say (nat_lt limit lag) lag upto changes m q live
  news_say defs limit mark (answer.Refused code) m q live = told_aside e v known unread (replied defs limit mark m.subs keeps_subscription.News (answer.Refused code)) m q.subs ((refl, refl), tt) q live
  news_say defs limit mark a m q live = told_aside e v known unread (replied defs limit mark m.subs keeps_subscription.News a) m q.subs tt q live

  poll_leads : (front : ℕ) (m : State) → IsQuiet v m → LeadsTo e v known (on_poll (news_call m.subs front) m)
  poll_leads front m q = by_subs m.subs.subs
    where
      by_front : (b : Bool) → LeadsTo e v known (on_poll (if b then Some (call.News m.subs.cursor m.subs.subs) else None) m)
      by_front true = (record { subs = q.subs; out = q.out }, λ a fair live. news_say m.config.channels m.config.lag a.mark a.reply (record m { pending = None }) (record { subs = q.subs; out = q.out }) live)
      by_front false = quiet_leads e v known m q

      by_subs : (xs : List Sub) → LeadsTo e v known (on_poll (news_from m.subs.subs front (cursor_with xs m.subs.cursor)) m)
      by_subs [] = quiet_leads e v known m q
      by_subs (x ∷ xs) = by_front (nat_lt m.subs.cursor front)

-- ---- an event

module _ (e : Event) (v : Subbed) (known : Option (List Entry)) (none : v.pending ≡ []) where
  event_leads : (l : Live) (a : Arrived) (s : State) → IsArrival e a → IsQuiet v s → LeadsTo e v known (by_event l a s)
  event_leads l (arrives.Unreadable c) s is q = refuses_lead e v known unread c s q
  event_leads l (arrives.Stale r) s is q = refuses_lead e v known r code.InvalidMessage s q
  event_leads l (arrives.Refused r c) s is q = refuses_lead e v known r c (accepting r s) (record { subs = q.subs; out = q.out })
  event_leads l (arrives.Fresh hd moment x) s is q =
      let m : State = acknowledged hd x (accepting (request_of hd) s) in
      received_leads e v known m.phase hd moment x m is
      (receipt_quiet e v known (has_flag hd.flags acknowledge && may_acknowledge x) hd (accepting (request_of hd) s) (record { subs = q.subs; out = q.out }))
  event_leads l (arrives.Polled front) s is q = poll_leads e v known is none front s q

  pub phase_leads : (p : Phase) (a : Arrived) (s : State) → IsArrival e a → IsQuiet v s → LeadsTo e v known (by_phase p a s)
  phase_leads (phase.Live l) a s is q = event_leads l a s is q
  phase_leads (phase.Ended end) a s is q = quiet_leads e v known s q
