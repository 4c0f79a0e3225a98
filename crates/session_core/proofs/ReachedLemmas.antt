-- What holds for each state that a run reaches, and the law of committed transactions in a run.
use Rattle.std.specs.Prelude.{ℕ, ℤ, ◌-◌, ◌^◌, ◌≤◌, ◌&&◌, ◌≡◌, Bool, true, false, List, [], ◌∷◌, Option, Some, None, Result, Ok, Err, refl, if◌then◌else◌, is_some, take, MatchOption, IsSomeAnd}
use Rattle.std.proofs.Common.{sym, ◌∙◌, subst, arith}
use Rattle.std.proofs.lemmas.Bool.{false≢true}
use Rattle.std.proofs.lemmas.Option.{none-some}
use Rattle.array_rows.specs.Arrays as arrays
use Rattle.server_config.specs.declared.config.Config.{Config}
use Rattle.channel_rows.specs.Loads as loads
use Rattle.channel_rows.specs.Notices.{Told}
use Rattle.channel_rows.specs.Subscriptions as subscribes
use Rattle.etp_frame.specs.Header.{acknowledge, has_flag}
use Rattle.etp_frame.specs.Joining.{Awaited, joins}
use Rattle.etp_frame.specs.declared.header.Header.{Header}
use Rattle.etp_frame.specs.declared.joining.Joined.{Joined}
use Rattle.etp_frame.specs.declared.joining.Joined.TheVariants.{More, Whole}
use Rattle.etp_frame.specs.declared.joining.JoinError.{JoinError}
use Rattle.etp_frame.specs.declared.message.Message.{Message}
use Rattle.etp_frame.specs.declared.message.Message.TheVariants as message
use Rattle.etp_values.specs.declared.code.ErrorCode.{ErrorCode}
use Rattle.etp_values.specs.declared.code.ErrorCode.TheVariants as code
use Rattle.keyed_requests.specs.declared.sending.Outcome.{Outcome}
use Rattle.keyed_requests.specs.declared.sending.Outcome.TheVariants.{Replies, Calls}
use Rattle.msg_core.specs.declared.core_messages.CoreMessage.{CoreMessage}
use Rattle.msg_core.specs.declared.core_messages.CoreMessage.TheVariants as core
use Rattle.msg_store.specs.declared.store_messages.StoreMessage.{StoreMessage}
use Rattle.msg_store.specs.declared.store_messages.StoreMessage.TheVariants as object
use Rattle.request_scope.specs.Scope.{is_read_only}
use Rattle.session_rows.specs.Dataspaces.{dataspace_outcome, dataspace_reply}
use Rattle.session_rows.specs.Objects as objects
use Rattle.session_rows.specs.Opening.{opening_of}
use Rattle.session_rows.specs.Transactions as transactions
use Rattle.session_rows.specs.declared.opening.Opening.{Opening}
use Rattle.session_rows.specs.declared.opening.Opening.TheVariants as opens
use Rattle.store_machine.specs.Answers.{answered}
use Rattle.store_machine.specs.Laws.{NoConflictIsFree, ValuesStayBetween}
use Rattle.store_machine.specs.declared.call.Answer.{Answer}
use Rattle.store_machine.specs.declared.call.Reply.{Reply}
use Rattle.store_machine.specs.declared.call.StoreCall.{StoreCall}
use Rattle.store_machine.specs.declared.journal.Entry.{Entry}
use Rattle.tx_stage.specs.Laws.{LooksAtOwnKeys}
use Rattle.tx_stage.specs.Staging.{Transaction}
use Rattle.session_core.specs.declared.state.Arrived.{Arrived}
use Rattle.session_core.specs.declared.state.Arrived.TheVariants as arrives
use Rattle.session_core.specs.declared.state.End.TheVariants as end
use Rattle.session_core.specs.declared.state.Live.{Live}
use Rattle.session_core.specs.declared.state.Live.TheVariants as live
use Rattle.session_core.specs.declared.state.Pending.{Pending}
use Rattle.session_core.specs.declared.state.Pending.TheVariants as pending
use Rattle.session_core.specs.declared.state.Phase.{Phase}
use Rattle.session_core.specs.declared.state.Phase.TheVariants as phase
use Rattle.session_core.specs.declared.state.Request.{Request}
use Rattle.session_core.specs.declared.state.Saying.{Saying}
use Rattle.session_core.specs.declared.state.StagedPending.{StagedPending}
use Rattle.session_core.specs.declared.state.StagedPending.TheVariants as staged
use Rattle.session_core.specs.State.{State}
use Rattle.session_core.specs.Arriving.{Event, arrived, request_of}
use Rattle.session_core.specs.Fitting.{AnswersFit, Fits}
use Rattle.session_core.specs.Machine.{Taken, accepting, by_event, by_phase, given_to, join_code, may_acknowledge, no_call, on_arrays, on_arrays_answered, on_core, on_join, on_joined, on_loads_answered, on_message, on_noted, on_objects, on_objects_answered, on_outcome, on_poll, on_protocol, on_received, on_row, on_store, on_subscriptions_answered, on_whole, opened, protocol_refusal, put_request, refuses, unread}
use Rattle.session_core.specs.Noting.{noting, reply_noted}
use Rattle.session_core.specs.Replies.{receipt, refusal, sayings_of, to_request}
use Rattle.session_core.specs.Run.{AnswersAreLast, Course, answered_at, asked, first_course, happens, happens_unless, hears, moment_of, run, run_from, takes}
use Rattle.session_core.specs.Sending.{cut_all, is_spent, said, spent_phase}
use Rattle.session_core.specs.Serial.{Begins, RisesFrom, RunIsSerial, Succeeds}
use Rattle.session_core.proofs.AloneLemmas.{ended-fails, short-fails}
use Rattle.session_core.proofs.RunLemmas.{course}
use Rattle.session_core.proofs.BesideLemmas.{IsApart, IsBegun, IsReady, begun-spent, blobs-low}
use Rattle.session_core.proofs.CommittedLemmas.{committed_is_serial}

-- ---- an open session stays begun, and counts its blobs in 64 bits

ready_said : (r : Request) (xs : List Saying) (s : State) → IsReady s → IsReady (said r xs s)
ready_said r xs s is = (blobs-low s.limit s.blobs xs is.0, begun-spent (is_spent s.next_id (cut_all s.limit s.number s.blobs xs)) s.phase is.1)

ready_outcome : {P M : Type 0} (wrapped : M → Message) (kept : Request → P → Pending) (r : Request) (o : Outcome StoreCall P M) (s : State) → IsReady s → IsReady (on_outcome wrapped kept r o s).state
ready_outcome wrapped kept r (Replies xs) s is = ready_said r (sayings_of wrapped xs) s is
ready_outcome wrapped kept r (Calls c p) s is = is

ready_objects : (r : Request) (o : objects.ObjectOutcome) (s : State) → IsReady s → IsReady (on_objects r o s).state
ready_objects r (Replies xs) s is = ready_said r (sayings_of message.Store xs) s is
ready_objects r (Calls c p) s is = is

ready_arrays : (r : Request) (o : arrays.ArrayOutcome) (s : State) → IsReady s → IsReady (on_arrays r o s).state
ready_arrays r (Replies xs) s is = ready_said r (sayings_of message.DataArray xs) s is
ready_arrays r (Calls c p) s is = is

ready_whole : (r : Request) (now : ℤ) (m : Message) (s : State) → IsReady s → IsReady (on_whole r now m s).state
ready_whole r now (message.Store m) s is = ready_objects r (objects.object_outcome s.formats s.config.types s.stage now m) s is
ready_whole r now (message.Core m) s is = is
ready_whole r now (message.Dataspace m) s is = is
ready_whole r now (message.DataArray m) s is = is
ready_whole r now (message.Transaction m) s is = is
ready_whole r now (message.ChannelSubscribe m) s is = is
ready_whole r now (message.ChannelDataLoad m) s is = is

ready_joined : (h : Header) (now : ℤ) (r : Request) (j : Result (Joined × Option Awaited) JoinError) (s : State) → IsReady s → IsReady (on_joined h now r j s).state
ready_joined h now r (Err e) s is = ready_said (request_of h) (to_request (refusal (join_code e)) ∷ []) (record s { joiner = None }) is
ready_joined h now r (Ok (More, w)) s is = is
ready_joined h now r (Ok (Whole m, w)) s is = ready_whole r now m (record s { joiner = w }) is

ready_join : (h : Header) (now : ℤ) (m : StoreMessage) (s : State) → IsReady s → IsReady (on_join h now m s).state
ready_join h now m s is = ready_joined h now (put_request h s.joiner) (joins s.joiner h (message.Store m)) s is

ready_put : (h : Header) (now : ℤ) (m : StoreMessage) (s : State) (b : Bool) → IsReady s → IsReady (if b then no_call (refuses (request_of h) code.RequestDenied s) else on_join h now m s).state
ready_put h now m s true is = ready_said (request_of h) (to_request (refusal code.RequestDenied) ∷ []) s is
ready_put h now m s false is = ready_join h now m s is

ready_store : (h : Header) (now : ℤ) (m : StoreMessage) (s : State) → IsReady s → IsReady (on_store h now m s).state
ready_store h now (object.PutDataObjects m) s is = ready_put h now (object.PutDataObjects m) s (is_read_only s.stage) is
ready_store h now (object.Chunk m) s is = ready_join h now (object.Chunk m) s is
ready_store h now (object.GetDataObjects m) s is = ready_whole (request_of h) now (message.Store (object.GetDataObjects m)) s is
ready_store h now (object.DeleteDataObjects m) s is = ready_whole (request_of h) now (message.Store (object.DeleteDataObjects m)) s is
ready_store h now (object.GetDataObjectsResponse m) s is = ready_whole (request_of h) now (message.Store (object.GetDataObjectsResponse m)) s is
ready_store h now (object.PutDataObjectsResponse m) s is = ready_whole (request_of h) now (message.Store (object.PutDataObjectsResponse m)) s is
ready_store h now (object.DeleteDataObjectsResponse m) s is = ready_whole (request_of h) now (message.Store (object.DeleteDataObjectsResponse m)) s is

ready_row : (h : Header) (now : ℤ) (m : Message) (s : State) → IsReady s → IsReady (on_row h now m s).state
ready_row h now (message.Dataspace m) s is = ready_outcome message.Dataspace pending.Dataspaces (request_of h) (dataspace_outcome m (is_some s.stage)) s is
ready_row h now (message.Store m) s is = ready_store h now m s is
ready_row h now (message.DataArray m) s is = ready_arrays (request_of h) (arrays.array_outcome s.stage now m) s is
ready_row h now (message.Transaction m) s is =
    let t = transactions.transaction_request s.config.instance s.number s.stage s.starts m in
    ready_outcome message.Transaction pending.Transactions (request_of h) t.outcome (record s { stage = t.stage; starts = t.starts }) is
ready_row h now (message.ChannelSubscribe m) s is = let l = subscribes.subscribe_outcome s.subs m in ready_outcome message.ChannelSubscribe pending.Subscriptions (request_of h) l.outcome (record s { subs = l.subs }) is
ready_row h now (message.ChannelDataLoad m) s is = let l = loads.load_outcome s.opens now m in ready_outcome message.ChannelDataLoad pending.Loads (request_of h) l.outcome (record s { opens = l.opens }) is
ready_row h now (message.Core m) s is = ready_said (request_of h) (to_request (refusal code.InvalidMessageType) ∷ []) s is

ready_protocol : (why : Option ErrorCode) (h : Header) (now : ℤ) (m : Message) (s : State) → IsReady s → IsReady (on_protocol why h now m s).state
ready_protocol (Some c) h now m s is = ready_said (request_of h) (to_request (refusal c) ∷ []) s is
ready_protocol None h now m s is = ready_row h now m s is

ready_core : (r : Request) (now : ℤ) (m : CoreMessage) (s : State) → IsReady s → IsReady (on_core live.Open r now m s)
ready_core r now (core.RequestSession m) s is = ready_said r (to_request (refusal code.InvalidState) ∷ []) s is
ready_core r now (core.OpenSession m) s is = ready_said r (to_request (refusal code.InvalidMessageType) ∷ []) s is
ready_core r now (core.CloseSession m) s is = (is.0, tt)
ready_core r now (core.Ping m) s is = ready_said r (to_request (message.Core (core.Pong (record { current_date_time = now }))) ∷ []) s is
ready_core r now (core.Pong m) s is = is
ready_core r now (core.ProtocolException m) s is = is
ready_core r now (core.Acknowledge m) s is = is

ready_message : (h : Header) (now : ℤ) (m : Message) (s : State) → IsReady s → IsReady (on_message live.Open h now m s).state
ready_message h now (message.Core m) s is = ready_core (request_of h) now m s is
ready_message h now (message.Store m) s is = ready_protocol (protocol_refusal live.Open s.accepted h.protocol) h now (message.Store m) s is
ready_message h now (message.DataArray m) s is = ready_protocol (protocol_refusal live.Open s.accepted h.protocol) h now (message.DataArray m) s is
ready_message h now (message.Dataspace m) s is = ready_protocol (protocol_refusal live.Open s.accepted h.protocol) h now (message.Dataspace m) s is
ready_message h now (message.Transaction m) s is = ready_protocol (protocol_refusal live.Open s.accepted h.protocol) h now (message.Transaction m) s is
ready_message h now (message.ChannelSubscribe m) s is = ready_protocol (protocol_refusal live.Open s.accepted h.protocol) h now (message.ChannelSubscribe m) s is
ready_message h now (message.ChannelDataLoad m) s is = ready_protocol (protocol_refusal live.Open s.accepted h.protocol) h now (message.ChannelDataLoad m) s is

-- the same once something was sent in a state that differs in its transaction, its channels or its subscriptions
ready_objects_answered : (r : Request) (a : objects.ObjectsAnswered) (s : State) → IsReady s → IsReady (on_objects_answered r a s)
ready_objects_answered r a s is = ready_said r (sayings_of message.Store a.sendings) (record s { stage = a.stage }) is

ready_arrays_answered : (r : Request) (a : arrays.ArraysAnswered) (s : State) → IsReady s → IsReady (on_arrays_answered r a s)
ready_arrays_answered r a s is = ready_said r (sayings_of message.DataArray a.sendings) (record s { stage = a.stage }) is

ready_noted : (r : Request) (sp : StagedPending) (answer : Reply) (s : State) → IsReady s → IsReady (on_noted r sp answer s)
ready_noted r (staged.Objects p) answer s is = ready_objects_answered r (objects.object_reply s.stage p answer) s is
ready_noted r (staged.Arrays p) answer s is = ready_arrays_answered r (arrays.array_reply s.limit s.stage p answer) s is

ready_loaded : (r : Request) (l : loads.Loaded) (s : State) → IsReady s → IsReady (on_loads_answered r l s)
ready_loaded r l s is = ready_said r (sayings_of message.ChannelDataLoad l.sendings) (record s { opens = l.opens }) is

ready_told : (r : Request) (t : Told) (s : State) → IsReady s → IsReady (on_subscriptions_answered r t s)
ready_told r t s is = ready_said r (sayings_of message.ChannelSubscribe t.sendings) (record s { subs = t.subs }) is

ready_answer : (kept : Option Pending) (a : Answer) (s : State) → IsReady s → IsReady (given_to kept a s)
ready_answer None a s is = is
ready_answer (Some (pending.Dataspaces r p)) a s is = ready_said r (sayings_of message.Dataspace (dataspace_reply p a.reply)) s is
ready_answer (Some (pending.Objects r p)) a s is = ready_objects_answered r (objects.object_reply s.stage p a.reply) s is
ready_answer (Some (pending.Arrays r p)) a s is = ready_arrays_answered r (arrays.array_reply s.limit s.stage p a.reply) s is
ready_answer (Some (pending.Staged r keys p)) a s is = ready_noted r p (reply_noted a.mark keys s.stage a.reply) (record s { stage = noting a.mark keys s.stage }) is
ready_answer (Some (pending.Transactions r p)) a s is = ready_said r (sayings_of message.Transaction (transactions.transaction_reply p a.reply)) s is
ready_answer (Some (pending.Loads r p)) a s is = ready_loaded r (loads.load_reply s.config.channels s.opens p a.reply) s is
ready_answer (Some (pending.Subscriptions r p)) a s is = ready_told r (subscribes.subscribe_reply s.config.channels s.config.lag s.subs p a) s is

-- ---- a session that waits has no transaction

abbrev WaitsIdle : Phase → Option Transaction → Type 0
WaitsIdle (phase.Live live.Waiting) st = st ≡ None
WaitsIdle (phase.Live live.Open) st = Unit {0}
WaitsIdle (phase.Ended e) st = Unit {0}

abbrev IsSound : State → Type 0
IsSound s = (s.blobs ≤ 2 ^ 64 - 1) × WaitsIdle s.phase s.stage

begun_idle : (p : Phase) (st : Option Transaction) → IsBegun p → WaitsIdle p st
begun_idle (phase.Live live.Waiting) st is = absurd is
begun_idle (phase.Live live.Open) st is = tt
begun_idle (phase.Ended e) st is = tt

ready_sound : (s : State) → IsReady s → IsSound s
ready_sound s is = (is.0, begun_idle s.phase s.stage is.1)

spent_idle : (b : Bool) (p : Phase) (st : Option Transaction) → WaitsIdle p st → WaitsIdle (spent_phase b p) st
spent_idle true p st is = tt
spent_idle false p st is = is

sound_said : (r : Request) (xs : List Saying) (s : State) → IsSound s → IsSound (said r xs s)
sound_said r xs s is = (blobs-low s.limit s.blobs xs is.0, spent_idle (is_spent s.next_id (cut_all s.limit s.number s.blobs xs)) s.phase s.stage is.1)

sound_answer : (kept : Option Pending) (a : Answer) (s : State) → IsApart kept → IsSound s → IsSound (given_to kept a s)
sound_answer None a s apart is = is
sound_answer (Some (pending.Dataspaces r p)) a s apart is = sound_said r (sayings_of message.Dataspace (dataspace_reply p a.reply)) s is
sound_answer (Some (pending.Objects r p)) a s apart is = absurd apart
sound_answer (Some (pending.Arrays r p)) a s apart is = absurd apart
sound_answer (Some (pending.Staged r keys p)) a s apart is = absurd apart
sound_answer (Some (pending.Transactions r p)) a s apart is = absurd apart
sound_answer (Some (pending.Loads r p)) a s apart is =
    let l = loads.load_reply s.config.channels s.opens p a.reply in
    sound_said r (sayings_of message.ChannelDataLoad l.sendings) (record s { opens = l.opens }) is
sound_answer (Some (pending.Subscriptions r p)) a s apart is =
    let t = subscribes.subscribe_reply s.config.channels s.config.lag s.subs p a in
    sound_said r (sayings_of message.ChannelSubscribe t.sendings) (record s { subs = t.subs }) is

-- where an event leads
data Steps (t : Taken) : Type 0 where
  Stays : IsSound t.state → IsApart t.state.pending → Steps t
  Goes : IsReady t.state → Steps t

apart_idle : (kept : Option Pending) → kept ≡ None → IsApart kept
apart_idle None is = tt
apart_idle (Some k) is = absurd cc

stays_said : (r : Request) (xs : List Saying) (s : State) → IsSound s → s.pending ≡ None → Steps (no_call (said r xs s))
stays_said r xs s is idle = Stays (sound_said r xs s is) (apart_idle s.pending idle)

waiting_opened : (r : Request) (o : Opening) (s : State) → s.blobs ≤ 2 ^ 64 - 1 → Steps (no_call (opened r o s))
waiting_opened r (opens.Refused c) s low = Goes (ready_said r (to_request (refusal c) ∷ []) (record s { phase = phase.Ended (end.Refused c) }) (low, tt))
waiting_opened r (opens.Opened accepted formats limit m) s low = Goes (ready_said r (to_request (message.Core (core.OpenSession m)) ∷ []) (record s { phase = phase.Live live.Open; accepted = accepted; formats = formats; limit = limit }) (low, tt))

waiting_core : (r : Request) (now : ℤ) (m : CoreMessage) (s : State) → IsSound s → s.pending ≡ None → Steps (no_call (on_core live.Waiting r now m s))
waiting_core r now (core.RequestSession m) s is idle = waiting_opened r (opening_of s.config s.number now m) s is.0
waiting_core r now (core.OpenSession m) s is idle = stays_said r (to_request (refusal code.InvalidMessageType) ∷ []) s is idle
waiting_core r now (core.CloseSession m) s is idle = Goes (is.0, tt)
waiting_core r now (core.Ping m) s is idle = stays_said r (to_request (refusal code.InvalidState) ∷ []) s is idle
waiting_core r now (core.Pong m) s is idle = Stays is (apart_idle s.pending idle)
waiting_core r now (core.ProtocolException m) s is idle = Stays is (apart_idle s.pending idle)
waiting_core r now (core.Acknowledge m) s is idle = Stays is (apart_idle s.pending idle)

waiting_message : (h : Header) (now : ℤ) (m : Message) (s : State) → IsSound s → s.pending ≡ None → Steps (on_message live.Waiting h now m s)
waiting_message h now (message.Core m) s is idle = waiting_core (request_of h) now m s is idle
waiting_message h now (message.Store m) s is idle = stays_said (request_of h) (to_request (refusal code.InvalidState) ∷ []) s is idle
waiting_message h now (message.DataArray m) s is idle = stays_said (request_of h) (to_request (refusal code.InvalidState) ∷ []) s is idle
waiting_message h now (message.Dataspace m) s is idle = stays_said (request_of h) (to_request (refusal code.InvalidState) ∷ []) s is idle
waiting_message h now (message.Transaction m) s is idle = stays_said (request_of h) (to_request (refusal code.InvalidState) ∷ []) s is idle
waiting_message h now (message.ChannelSubscribe m) s is idle = stays_said (request_of h) (to_request (refusal code.InvalidState) ∷ []) s is idle
waiting_message h now (message.ChannelDataLoad m) s is idle = stays_said (request_of h) (to_request (refusal code.InvalidState) ∷ []) s is idle

received : (p : Phase) (h : Header) (now : ℤ) (m : Message) (s : State) → s.phase ≡ p → IsSound s → s.pending ≡ None → Steps (on_received p h now m s)
received (phase.Live live.Waiting) h now m s at is idle = waiting_message h now m s is idle
received (phase.Live live.Open) h now m s at is idle = Goes (ready_message h now m s (is.0, subst IsBegun (sym at) tt))
received (phase.Ended e) h now m s at is idle = Stays is (apart_idle s.pending idle)

fresh : (h : Header) (now : ℤ) (m : Message) (s : State) → IsSound s → s.pending ≡ None → (b : Bool)
    → let t = (if b then said (request_of h) (receipt ∷ []) s else s) in Steps (on_received t.phase h now m t)
fresh h now m s is idle true = let t = said (request_of h) (receipt ∷ []) s in received t.phase h now m t refl (sound_said (request_of h) (receipt ∷ []) s is) idle
fresh h now m s is idle false = received s.phase h now m s refl is idle

polled : (c : Option StoreCall) (s : State) → IsSound s → s.pending ≡ None → Steps (on_poll c s)
polled None s is idle = Stays is (apart_idle s.pending idle)
polled (Some c) s is idle = Stays is tt

event_steps : (l : Live) (a : Arrived) (s : State) → IsSound s → s.pending ≡ None → Steps (by_event l a s)
event_steps l (arrives.Unreadable c) s is idle = stays_said unread (to_request (refusal c) ∷ []) s is idle
event_steps l (arrives.Stale r) s is idle = stays_said r (to_request (refusal code.InvalidMessage) ∷ []) s is idle
event_steps l (arrives.Refused r c) s is idle = stays_said r (to_request (refusal c) ∷ []) (accepting r s) is idle
event_steps l (arrives.Fresh h now m) s is idle = fresh h now m (accepting (request_of h) s) is idle (has_flag h.flags acknowledge && may_acknowledge m)
event_steps l (arrives.Polled front) s is idle = polled (subscribes.news_call s.subs front) s is idle

phase_steps : (p : Phase) (a : Arrived) (s : State) → IsSound s → s.pending ≡ None → Steps (by_phase p a s)
phase_steps (phase.Live l) a s is idle = event_steps l a s is idle
phase_steps (phase.Ended e) a s is idle = Stays is (apart_idle s.pending idle)

taking_steps : (s : State) (e : Event) → IsSound s → s.pending ≡ None → Steps (takes s e)
unfolding takes
taking_steps s e is idle = phase_steps s.phase (arrived s.last_id e) s is idle

step_sound : (t : Taken) → Steps t → IsSound t.state
step_sound t (Stays is apart) = is
step_sound t (Goes is) = ready_sound t.state is

hearing_sound : (t : Taken) (a : Answer) → Steps t → IsSound (hears t.state a)
unfolding hears
hearing_sound t a (Stays is apart) = sound_answer t.state.pending a (record t.state { pending = None }) apart is
hearing_sound t a (Goes is) = ready_sound (given_to t.state.pending a (record t.state { pending = None })) (ready_answer t.state.pending a (record t.state { pending = None }) is)

-- ---- along a run

record Reached (c : Course) : Type 0 where
  sound : IsSound c.state
  idle : c.short ≡ false → c.state.pending ≡ None
  out : c.state.out ≡ []
  places : RisesFrom 0 c.places

fewer : (p : ℕ) (ps : List ℕ) → RisesFrom 0 (p ∷ ps) → RisesFrom 0 ps
fewer p [] h = tt
fewer p (q ∷ qs) h = (omega arith, h.1.1)

module _ (fits : AnswersFit) (last : AnswersAreLast) (config : Config) (n : ℕ) (h : List Entry) where
  answered_reached : (moment : ℤ) (c : Course) (t : Taken) (k : StoreCall) (ps : List ℕ) → Steps t → RisesFrom 0 ps → Reached (answered_at config n h moment c t.state k ps)
  answered_reached moment c t k [] steps rises = record { sound = step_sound t steps; idle = λ is. absurd (false≢true (sym is)); out = refl; places = tt }
  answered_reached moment c t k (q ∷ qs) steps rises = record { sound = hearing_sound t (answered config (take q h) k) steps; idle = λ is. last t.state (answered config (take q h) k); out = refl; places = fewer q qs rises }

  asked_reached : (moment : ℤ) (c : Course) (t : Taken) (k : Option StoreCall) → Steps t → MatchOption k (t.state.pending ≡ None) (λ k. IsSomeAnd t.state.pending (Fits (answered config h k).reply)) → RisesFrom 0 c.places
      → Reached (asked config n h moment c t.state k)
  asked_reached moment c t None steps kept rises = record { sound = step_sound t steps; idle = λ is. kept; out = refl; places = rises }
  asked_reached moment c t (Some k) steps kept rises = answered_reached moment c t k c.places steps rises

  happens_reached : (c : Course) (e : Event) (b : Bool) → c.short ≡ b → Reached c → Reached (happens_unless config n h b c e)
  happens_reached c e true is r = r
  happens_reached c e false is r =
      let idle = r.idle is in
      let t = takes c.state e in
      let kept = subst (λ k. MatchOption t.call (t.state.pending ≡ k) (λ k. IsSomeAnd t.state.pending (Fits (answered config h k).reply))) idle (fits config h c.state e) in
      asked_reached (moment_of e) c t t.call (taking_steps c.state e r.sound idle) kept r.places

  run_reached : (es : List Event) (c : Course) → Reached c → Reached (run_from config n h c es)
  run_reached [] c r = r
  run_reached (e ∷ es) c r = run_reached es (happens config n h c e) (happens_reached c e c.short refl r)

  -- what commits is open
  is_open : (p : ℕ) (x : Transaction) (c : Course) (es : List Event) → c.short ≡ false → c.state.stage ≡ Some x → IsSound c.state → Succeeds config n h p c es → (ph : Phase) → c.state.phase ≡ ph → WaitsIdle ph c.state.stage → ph ≡ phase.Live live.Open
  is_open p x c es short stage is succ (phase.Live live.Waiting) at idle = absurd (none-some x (sym idle ∙ stage))
  is_open p x c es short stage is succ (phase.Live live.Open) at idle = refl
  is_open p x c es short stage is succ (phase.Ended e) at idle =
      let there : c ≡ course (record c.state { phase = phase.Ended e }) c.places c.sent c.made c.reach = λ j. record { state = record c.state { phase = at j }; places = c.places; sent = c.sent; made = c.made; short = short j; reach = c.reach } in
      absurd (ended-fails config n h p es e c.state c.places c.sent c.made c.reach (subst (λ d. Succeeds config n h p d es) there succ))

-- ---- a run that has stopped short commits nothing

module _ (config : Config) (n : ℕ) (h : List Entry) where
  -- no place is left
  abbrev IsUsedUp : Course → Type 0
  IsUsedUp c = c.short ≡ true → c.places ≡ []

  answered_used : (moment : ℤ) (c : Course) (s : State) (k : StoreCall) (ps : List ℕ) → IsUsedUp (answered_at config n h moment c s k ps)
  answered_used moment c s k [] short = refl
  answered_used moment c s k (p ∷ ps) short = absurd (false≢true short)

  asked_used : (moment : ℤ) (c : Course) (s : State) (k : Option StoreCall) → IsUsedUp (asked config n h moment c s k)
  asked_used moment c s None short = absurd (false≢true short)
  asked_used moment c s (Some k) short = answered_used moment c s k c.places short

  happens_used : (b : Bool) (c : Course) (e : Event) → IsUsedUp c → IsUsedUp (happens_unless config n h b c e)
  happens_used true c e used = used
  happens_used false c e used = asked_used (moment_of e) c (takes c.state e).state (takes c.state e).call

  run_used : (es : List Event) (c : Course) → IsUsedUp c → IsUsedUp (run_from config n h c es)
  run_used [] c used = used
  run_used (e ∷ es) c used = run_used es (happens config n h c e) (happens_used c.short c e used)

  going : (p : ℕ) (c : Course) (es : List Event) → IsUsedUp c → Succeeds config n h p c es → c.short ≡ false
  going p c es used succ = by c.short refl
    where
      by : (b : Bool) → c.short ≡ b → c.short ≡ false
      by true is = absurd (short-fails config n h p es c is (used is) succ)
      by false is = is

pub run_is_serial : ValuesStayBetween → NoConflictIsFree → LooksAtOwnKeys → AnswersFit → AnswersAreLast → RunIsSerial
run_is_serial between no_conflict own_keys fits last config n h places es rises before later p x split stage touched succ =
    let c = run config n h places before in
    let first : Course = first_course config n places in
    let r = run_reached fits last config n h before first (record { sound = (omega arith, refl); idle = λ is. refl; out = refl; places = rises }) in
    let short : c.short ≡ false = going config n h p c later (run_used config n h before first (λ is. absurd (false≢true is))) succ in
    let begins : Begins c.state x = record {
      phase = is_open fits last config n h p x c later short stage r.sound succ c.state.phase refl r.sound.1;
      stage = stage;
      touched = touched;
      kept = r.idle short;
      out = r.out;
      blobs = r.sound.0;
    } in
    committed_is_serial between no_conflict own_keys config n h p c x later short begins r.places succ
