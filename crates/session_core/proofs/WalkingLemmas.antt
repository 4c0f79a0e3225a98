-- Each event, by what it is: most say nothing about any subscription; for the crates above too.
use Rattle.std.specs.Prelude.{ℕ, ℤ, Bool, true, false, List, [], ◌∷◌, ◌≤◌, ◌&&◌, is_some, Option, Some, None, Result, Ok, Err, take, length, if◌then◌else◌, refl}
use Rattle.std.proofs.Common.{arith}
use Rattle.array_rows.specs.Arrays.{ArrayOutcome, ArraysAnswered, array_outcome, array_reply}
use Rattle.server_config.specs.declared.config.Config.{Config}
use Rattle.array_rows.specs.declared.arrays.ArrayPending.{ArrayPending}
use Rattle.channel_rows.specs.Loads.{LoadOutcome, Loaded, load_outcome, load_reply}
use Rattle.channel_rows.specs.Subscriptions.{subscribe_outcome}
use Rattle.etp_frame.specs.Header.{acknowledge, has_flag}
use Rattle.etp_frame.specs.Joining.{Awaited, joins}
use Rattle.etp_frame.specs.declared.header.Header.{Header}
use Rattle.etp_frame.specs.declared.joining.JoinError.{JoinError}
use Rattle.etp_frame.specs.declared.joining.Joined.{Joined}
use Rattle.etp_frame.specs.declared.joining.Joined.TheVariants.{More, Whole}
use Rattle.etp_frame.specs.declared.message.Message.{Message}
use Rattle.etp_frame.specs.declared.message.Message.TheVariants as message
use Rattle.etp_values.specs.declared.code.ErrorCode.{ErrorCode}
use Rattle.etp_values.specs.declared.code.ErrorCode.TheVariants as code
use Rattle.keyed_requests.specs.declared.sending.Outcome.TheVariants.{Replies, Calls}
use Rattle.keyed_requests.specs.declared.sending.Sending.{Sending}
use Rattle.keyed_requests.specs.declared.sending.Sending.TheVariants.{Reply, Refusal, RefusedKeys, Notice}
use Rattle.msg_channel.specs.declared.channel_subscribe_messages.ChannelSubscribeMessage.{ChannelSubscribeMessage}
use Rattle.msg_core.specs.declared.core_messages.CoreMessage.{CoreMessage}
use Rattle.msg_core.specs.declared.core_messages.CoreMessage.TheVariants as core
use Rattle.msg_core.specs.declared.core_messages.RequestSession.{RequestSession}
use Rattle.msg_store.specs.declared.store_messages.StoreMessage.{StoreMessage}
use Rattle.msg_store.specs.declared.store_messages.StoreMessage.TheVariants as object
use Rattle.request_scope.specs.Scope.{is_read_only}
use Rattle.session_rows.specs.Dataspaces.{DataspaceOutcome, dataspace_outcome, dataspace_reply}
use Rattle.session_rows.specs.Objects.{ObjectOutcome, ObjectsAnswered, object_outcome, object_reply}
use Rattle.session_rows.specs.Opening.{opening_of}
use Rattle.session_rows.specs.Transactions.{TransactionOutcome, transaction_reply, transaction_request}
use Rattle.session_rows.specs.declared.objects.ObjectPending.{ObjectPending}
use Rattle.session_rows.specs.declared.opening.Opening.{Opening}
use Rattle.session_rows.specs.declared.opening.Opening.TheVariants as opens
use Rattle.store_machine.specs.Answers.{answered}
use Rattle.store_machine.specs.declared.call.Answer.{Answer}
use Rattle.store_machine.specs.declared.call.StoreCall.{StoreCall}
use Rattle.store_machine.specs.declared.journal.Entry.{Entry}
use Rattle.subscribe_core.specs.declared.stop.StopCause.{StopCause}
use Rattle.tx_stage.specs.Staging.{Transaction}
use Rattle.session_core.specs.declared.state.Arrived.{Arrived}
use Rattle.session_core.specs.declared.state.Arrived.TheVariants as arrives
use Rattle.session_core.specs.declared.state.Live.{Live}
use Rattle.session_core.specs.declared.state.Live.TheVariants as live
use Rattle.session_core.specs.declared.state.Outgoing.{Outgoing}
use Rattle.session_core.specs.declared.state.Pending.{Pending}
use Rattle.session_core.specs.declared.state.Pending.TheVariants as pending
use Rattle.session_core.specs.declared.state.Phase.{Phase}
use Rattle.session_core.specs.declared.state.Phase.TheVariants as phase
use Rattle.session_core.specs.declared.state.Request.{Request}
use Rattle.session_core.specs.declared.state.StagedPending.TheVariants as staged
use Rattle.session_core.specs.State.{State}
use Rattle.session_core.specs.Arriving.{request_of}
use Rattle.session_core.specs.Machine.{Taken, accepting, acknowledged, arrays_kept, asks, by_event, by_phase, given, given_to, join_code, may_acknowledge, no_call, objects_kept, on_arrays, on_arrays_answered, on_core, on_join, on_joined, on_loads_answered, on_message, on_objects, on_objects_answered, on_outcome, on_ping, on_protocol, on_received, on_request_session, on_row, on_store, on_subscriptions, on_whole, opened, protocol_refusal, put_request, refuses, unread}
use Rattle.session_core.specs.Noting.{noting, reply_noted}
use Rattle.session_core.specs.Replies.{receipt, refusal, sayings_of, to_request}
use Rattle.session_core.specs.Sending.{said}
use Rattle.session_core.proofs.HearingLemmas.{IsQuiet, stops, tells}
use Rattle.session_core.proofs.MovingLemmas.{After, AreQuiet, Flowing, Hushed, hushed_after, hushed_said, hushed_self}

-- messages of a protocol without subscriptions
pub quiet_sayings : {M : Type 0} (wrap : M → Message) → ((x : M) → IsQuiet (tells (wrap x)) (stops (wrap x))) → (xs : List (Sending M)) → AreQuiet (sayings_of wrap xs)
quiet_sayings wrap quiet [] = tt
quiet_sayings wrap quiet (Reply m ∷ xs) = (quiet m, quiet_sayings wrap quiet xs)
quiet_sayings wrap quiet (Refusal code ∷ xs) = ((refl, refl), quiet_sayings wrap quiet xs)
quiet_sayings wrap quiet (RefusedKeys keys ∷ xs) = ((refl, refl), quiet_sayings wrap quiet xs)
quiet_sayings wrap quiet (Notice m ∷ xs) = (quiet m, quiet_sayings wrap quiet xs)

-- anything but a poll
abbrev pub IsReceived : Arrived → Type 0
IsReceived (arrives.Polled front) = ⊥
IsReceived _ = Unit {0}

-- ---- answers that say nothing about subscriptions

-- what is kept for a call of another protocol
abbrev pub IsAway : Pending → Type 0
IsAway (pending.Subscriptions r p) = ⊥
IsAway _ = Unit {0}

objects_quiet : (s : State) (r : Request) (x : ObjectsAnswered) (m : State) → Hushed s m → Hushed s (on_objects_answered r x m)
objects_quiet s r x m q =
    hushed_said r (sayings_of message.Store x.sendings) s (record m { stage = x.stage }) (quiet_sayings message.Store (λ y. (refl, refl)) x.sendings) (record { config = q.config; subs = q.subs; unheard = q.unheard })

arrays_quiet : (s : State) (r : Request) (x : ArraysAnswered) (m : State) → Hushed s m → Hushed s (on_arrays_answered r x m)
arrays_quiet s r x m q =
    hushed_said r (sayings_of message.DataArray x.sendings) s (record m { stage = x.stage }) (quiet_sayings message.DataArray (λ y. (refl, refl)) x.sendings) (record { config = q.config; subs = q.subs; unheard = q.unheard })

loads_quiet : (s : State) (r : Request) (x : Loaded) (m : State) → Hushed s m → Hushed s (on_loads_answered r x m)
loads_quiet s r x m q =
    hushed_said r (sayings_of message.ChannelDataLoad x.sendings) s (record m { opens = x.opens }) (quiet_sayings message.ChannelDataLoad (λ y. (refl, refl)) x.sendings) (record { config = q.config; subs = q.subs; unheard = q.unheard })

pub away_objects : (stage : Option Transaction) (r : Request) (c : StoreCall) (p : ObjectPending) → IsAway (objects_kept stage r c p)
away_objects None r c p = tt
away_objects (Some x) r c p = tt

pub away_arrays : (stage : Option Transaction) (r : Request) (c : StoreCall) (p : ArrayPending) → IsAway (arrays_kept stage r c p)
away_arrays None r c p = tt
away_arrays (Some x) r c p = tt

quiet_given : (s : State) (p : Pending) → IsAway p → (a : Answer) (m : State) → Hushed s m → Hushed s (given_to (Some p) a m)
quiet_given s (pending.Dataspaces r p) is a m q = hushed_said r (sayings_of message.Dataspace (dataspace_reply p a.reply)) s m (quiet_sayings message.Dataspace (λ y. (refl, refl)) (dataspace_reply p a.reply)) q
quiet_given s (pending.Objects r p) is a m q = objects_quiet s r (object_reply m.stage p a.reply) m q
quiet_given s (pending.Arrays r p) is a m q = arrays_quiet s r (array_reply m.limit m.stage p a.reply) m q
quiet_given s (pending.Staged r keys (staged.Objects p)) is a m q =
    objects_quiet s r (object_reply (noting a.mark keys m.stage) p (reply_noted a.mark keys m.stage a.reply)) (record m { stage = noting a.mark keys m.stage }) (record { config = q.config; subs = q.subs; unheard = q.unheard })
quiet_given s (pending.Staged r keys (staged.Arrays p)) is a m q =
    arrays_quiet s r (array_reply m.limit (noting a.mark keys m.stage) p (reply_noted a.mark keys m.stage a.reply)) (record m { stage = noting a.mark keys m.stage }) (record { config = q.config; subs = q.subs; unheard = q.unheard })
quiet_given s (pending.Transactions r p) is a m q =
    hushed_said r (sayings_of message.Transaction (transaction_reply p a.reply)) s m (quiet_sayings message.Transaction (λ y. (refl, refl)) (transaction_reply p a.reply)) q
quiet_given s (pending.Loads r p) is a m q = loads_quiet s r (load_reply m.config.channels m.opens p a.reply) m q
quiet_given s (pending.Subscriptions r p) is a m q = absurd is

-- one event of a session in this state, which may stop subscriptions for these causes: without a call, and with one that is answered at a
-- place
module _ (config : Config) (h : List Entry) (last : ℕ) (sent : List Outgoing) (s : State) (flowing : Flowing config h last sent s)
    (Causes : StopCause → Type 0) (CausesAt : ℕ → StopCause → Type 0) where
  -- what the event leads to
  abbrev pub Leads : State → Option StoreCall → Type 0
  Leads t None = After config h last sent s t Causes
  Leads t (Some call) = Hushed s t × ((p : ℕ) → last ≤ p → p ≤ length h → After config h p sent s (given t (answered config (take p h) call)) (CausesAt p))

  abbrev pub LeadsTo : Taken → Type 0
  LeadsTo t = Leads t.state t.call

  -- ---- nothing is sent about subscriptions

  pub quiet_leads : (t : State) → Hushed s t → LeadsTo (no_call t)
  quiet_leads t q = hushed_after config h last last sent s t Causes flowing (omega arith) q

  -- a quiet call is answered quietly
  pub quiet_call : (t : State) (call : StoreCall) → Hushed s t → ((a : Answer) → Hushed s (given t a)) → Leads t (Some call)
  quiet_call t call q answers = (q, λ p le top. hushed_after config h last p sent s (given t (answered config (take p h) call)) (CausesAt p) flowing le (answers (answered config (take p h) call)))

  refuses_leads : (r : Request) (c : ErrorCode) (m : State) → Hushed s m → LeadsTo (no_call (refuses r c m))
  refuses_leads r c m q = quiet_leads (refuses r c m) (hushed_said r (to_request (refusal c) ∷ []) s m ((refl, refl), tt) q)

  -- ---- the protocols without subscriptions

  asks_lead : (p : Pending) → IsAway p → (c : StoreCall) (m : State) → Hushed s m → LeadsTo (asks p c m)
  asks_lead p is c m q =
      quiet_call (record m { pending = Some p }) c (record { config = q.config; subs = q.subs; unheard = q.unheard })
      (λ a. quiet_given s p is a (record m { pending = None }) (record { config = q.config; subs = q.subs; unheard = q.unheard }))

  dataspaces_lead : (r : Request) (o : DataspaceOutcome) (m : State) → Hushed s m → LeadsTo (on_outcome message.Dataspace pending.Dataspaces r o m)
  dataspaces_lead r (Replies sendings) m q = quiet_leads _ (hushed_said r _ s m (quiet_sayings message.Dataspace (λ x. (refl, refl)) sendings) q)
  dataspaces_lead r (Calls c p) m q = asks_lead (pending.Dataspaces r p) tt c m q

  objects_lead : (r : Request) (o : ObjectOutcome) (m : State) → Hushed s m → LeadsTo (on_objects r o m)
  objects_lead r (Replies sendings) m q = quiet_leads _ (hushed_said r _ s m (quiet_sayings message.Store (λ x. (refl, refl)) sendings) q)
  objects_lead r (Calls c p) m q = asks_lead (objects_kept m.stage r c p) (away_objects m.stage r c p) c m q

  arrays_lead : (r : Request) (o : ArrayOutcome) (m : State) → Hushed s m → LeadsTo (on_arrays r o m)
  arrays_lead r (Replies sendings) m q = quiet_leads _ (hushed_said r _ s m (quiet_sayings message.DataArray (λ x. (refl, refl)) sendings) q)
  arrays_lead r (Calls c p) m q = asks_lead (arrays_kept m.stage r c p) (away_arrays m.stage r c p) c m q

  loads_lead : (r : Request) (o : LoadOutcome) (m : State) → Hushed s m → LeadsTo (on_outcome message.ChannelDataLoad pending.Loads r o m)
  loads_lead r (Replies sendings) m q = quiet_leads _ (hushed_said r _ s m (quiet_sayings message.ChannelDataLoad (λ x. (refl, refl)) sendings) q)
  loads_lead r (Calls c p) m q = asks_lead (pending.Loads r p) tt c m q

  transactions_lead : (r : Request) (o : TransactionOutcome) (m : State) → Hushed s m → LeadsTo (on_outcome message.Transaction pending.Transactions r o m)
  transactions_lead r (Replies sendings) m q = quiet_leads _ (hushed_said r _ s m (quiet_sayings message.Transaction (λ x. (refl, refl)) sendings) q)
  transactions_lead r (Calls c p) m q = asks_lead (pending.Transactions r p) tt c m q

  -- ---- puts that await chunks

  whole_leads : (r : Request) (moment : ℤ) (x : Message) (m : State) → Hushed s m → LeadsTo (on_whole r moment x m)
  whole_leads r moment (message.Store x) m q = objects_lead r (object_outcome m.formats m.config.types m.stage moment x) m q
  whole_leads r moment _ m q = quiet_leads m q

  joined_leads : (hd : Header) (moment : ℤ) (r : Request) (j : Result (Joined × Option Awaited) JoinError) (m : State) → Hushed s m → LeadsTo (on_joined hd moment r j m)
  joined_leads hd moment r (Err e) m q = refuses_leads (request_of hd) (join_code e) (record m { joiner = None }) (record { config = q.config; subs = q.subs; unheard = q.unheard })
  joined_leads hd moment r (Ok (More, w)) m q = quiet_leads (record m { joiner = w }) (record { config = q.config; subs = q.subs; unheard = q.unheard })
  joined_leads hd moment r (Ok (Whole x, w)) m q = whole_leads r moment x (record m { joiner = w }) (record { config = q.config; subs = q.subs; unheard = q.unheard })

  put_leads : (only : Bool) (hd : Header) (moment : ℤ) (x : StoreMessage) (m : State) → Hushed s m → LeadsTo (if only then no_call (refuses (request_of hd) code.RequestDenied m) else on_join hd moment x m)
  put_leads true hd moment x m q = refuses_leads (request_of hd) code.RequestDenied m q
  put_leads false hd moment x m q = joined_leads hd moment (put_request hd m.joiner) (joins m.joiner hd (message.Store x)) m q

  store_leads : (hd : Header) (moment : ℤ) (x : StoreMessage) (m : State) → Hushed s m → LeadsTo (on_store hd moment x m)
  store_leads hd moment (object.PutDataObjects x) m q = put_leads (is_read_only m.stage) hd moment (object.PutDataObjects x) m q
  store_leads hd moment (object.Chunk x) m q = joined_leads hd moment (put_request hd m.joiner) (joins m.joiner hd (message.Store (object.Chunk x))) m q
  store_leads hd moment x m q = whole_leads (request_of hd) moment (message.Store x) m q

  -- ---- Core

  opened_leads : (r : Request) (o : Opening) (m : State) → Hushed s m → LeadsTo (no_call (opened r o m))
  opened_leads r (opens.Refused c) m q = refuses_leads r c (record m { phase = _ }) (record { config = q.config; subs = q.subs; unheard = q.unheard })
  opened_leads r (opens.Opened accepted formats limit x) m q =
      quiet_leads _ (hushed_said r (to_request (message.Core (core.OpenSession x)) ∷ []) s (record m { phase = phase.Live live.Open; accepted = accepted; formats = formats; limit = limit }) ((refl, refl), tt)
      (record { config = q.config; subs = q.subs; unheard = q.unheard }))

  request_leads : (l : Live) (r : Request) (moment : ℤ) (x : RequestSession) (m : State) → Hushed s m → LeadsTo (no_call (on_request_session l r moment x m))
  request_leads live.Waiting r moment x m q = opened_leads r (opening_of m.config m.number moment x) m q
  request_leads live.Open r moment x m q = refuses_leads r code.InvalidState m q

  ping_leads : (l : Live) (r : Request) (moment : ℤ) (m : State) → Hushed s m → LeadsTo (no_call (on_ping l r moment m))
  ping_leads live.Waiting r moment m q = refuses_leads r code.InvalidState m q
  ping_leads live.Open r moment m q = quiet_leads _ (hushed_said r (to_request (message.Core (core.Pong (record { current_date_time = moment }))) ∷ []) s m ((refl, refl), tt) q)

  core_leads : (l : Live) (r : Request) (moment : ℤ) (x : CoreMessage) (m : State) → Hushed s m → LeadsTo (no_call (on_core l r moment x m))
  core_leads l r moment (core.RequestSession x) m q = request_leads l r moment x m q
  core_leads l r moment (core.OpenSession x) m q = refuses_leads r code.InvalidMessageType m q
  core_leads l r moment (core.CloseSession x) m q = quiet_leads (record m { phase = _ }) (record { config = q.config; subs = q.subs; unheard = q.unheard })
  core_leads l r moment (core.Ping x) m q = ping_leads l r moment m q
  core_leads l r moment (core.Pong x) m q = quiet_leads m q
  core_leads l r moment (core.ProtocolException x) m q = quiet_leads m q
  core_leads l r moment (core.Acknowledge x) m q = quiet_leads m q

  -- ---- messages, if those of subscriptions lead to what they should

  module _ (subscribing : (r : Request) (x : ChannelSubscribeMessage) (m : State) → Hushed s m → LeadsTo (on_subscriptions r (subscribe_outcome m.subs x) m)) where
    row_leads : (hd : Header) (moment : ℤ) (x : Message) (m : State) → Hushed s m → LeadsTo (on_row hd moment x m)
    row_leads hd moment (message.Dataspace x) m q = dataspaces_lead (request_of hd) (dataspace_outcome x (is_some m.stage)) m q
    row_leads hd moment (message.Store x) m q = store_leads hd moment x m q
    row_leads hd moment (message.DataArray x) m q = arrays_lead (request_of hd) (array_outcome m.stage moment x) m q
    row_leads hd moment (message.ChannelSubscribe x) m q = subscribing (request_of hd) x m q
    row_leads hd moment (message.ChannelDataLoad x) m q =
        loads_lead (request_of hd) (load_outcome m.opens moment x).outcome (record m { opens = (load_outcome m.opens moment x).opens }) (record { config = q.config; subs = q.subs; unheard = q.unheard })
    row_leads hd moment (message.Core x) m q = refuses_leads (request_of hd) code.InvalidMessageType m q
    row_leads hd moment (message.Transaction x) m q =
        let t = transaction_request m.config.instance m.number m.stage m.starts x in
        transactions_lead (request_of hd) t.outcome (record m { stage = t.stage; starts = t.starts }) (record { config = q.config; subs = q.subs; unheard = q.unheard })

    protocol_leads : (why : Option ErrorCode) (hd : Header) (moment : ℤ) (x : Message) (m : State) → Hushed s m → LeadsTo (on_protocol why hd moment x m)
    protocol_leads (Some c) hd moment x m q = refuses_leads (request_of hd) c m q
    protocol_leads None hd moment x m q = row_leads hd moment x m q

    message_leads : (l : Live) (hd : Header) (moment : ℤ) (x : Message) (m : State) → Hushed s m → LeadsTo (on_message l hd moment x m)
    message_leads l hd moment (message.Core x) m q = core_leads l (request_of hd) moment x m q
    message_leads l hd moment x m q = protocol_leads (protocol_refusal l m.accepted hd.protocol) hd moment x m q

    received_leads : (p : Phase) (hd : Header) (moment : ℤ) (x : Message) (m : State) → Hushed s m → LeadsTo (on_received p hd moment x m)
    received_leads (phase.Live l) hd moment x m q = message_leads l hd moment x m q
    received_leads (phase.Ended e) hd moment x m q = quiet_leads m q

    receipt_hushed : (b : Bool) (hd : Header) (m : State) → Hushed s m → Hushed s (if b then said (request_of hd) (receipt ∷ []) m else m)
    receipt_hushed true hd m q = hushed_said (request_of hd) (receipt ∷ []) s m ((refl, refl), tt) q
    receipt_hushed false hd m q = q

    event_leads : (l : Live) (a : Arrived) → IsReceived a → LeadsTo (by_event l a s)
    event_leads l (arrives.Unreadable c) is = refuses_leads unread c s (hushed_self s)
    event_leads l (arrives.Stale r) is = refuses_leads r code.InvalidMessage s (hushed_self s)
    event_leads l (arrives.Refused r c) is = refuses_leads r c (accepting r s) (record { config = refl; subs = refl; unheard = λ c k. refl })
    event_leads l (arrives.Fresh hd moment x) is =
        let m : State = acknowledged hd x (accepting (request_of hd) s) in
        received_leads m.phase hd moment x m
        (receipt_hushed (has_flag hd.flags acknowledge && may_acknowledge x) hd (accepting (request_of hd) s) (record { config = refl; subs = refl; unheard = λ c k. refl }))
    event_leads l (arrives.Polled front) is = absurd is

    pub phase_leads : (p : Phase) (a : Arrived) → IsReceived a → LeadsTo (by_phase p a s)
    phase_leads (phase.Live l) a is = event_leads l a is
    phase_leads (phase.Ended e) a is = quiet_leads s (hushed_self s)
