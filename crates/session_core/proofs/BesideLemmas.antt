-- What a session does at events that are not requests of its open transaction.
use Rattle.std.specs.Prelude.{ℕ, ℤ, pos, ◌+◌, ◌-◌, ◌^◌, ◌≤◌, ◌&&◌, Bool, true, false, ◌≡◌, List, [], ◌∷◌, Option, Some, None, refl, if◌then◌else◌, is_some, min, nat_le}
use Rattle.std.specs.List.{AllByRecursion}
use Rattle.std.specs.Str.{bytes_eq}
use Rattle.std.proofs.Common.{ap, sym, ◌∙◌, subst, arith}
use Rattle.std.proofs.lemmas.Bool.{false≢true}
use Rattle.channel_rows.specs.Loads as loads
use Rattle.channel_rows.specs.Subscriptions as subscribes
use Rattle.etp_frame.specs.Header.{acknowledge, has_flag}
use Rattle.etp_frame.specs.Message.{protocol_of}
use Rattle.etp_frame.specs.Splitting.{blobs_in}
use Rattle.etp_frame.specs.declared.header.Header.{Header}
use Rattle.etp_frame.specs.declared.message.Message.{Message}
use Rattle.etp_frame.specs.declared.message.Message.TheVariants as message
use Rattle.etp_values.specs.declared.code.ErrorCode.{ErrorCode}
use Rattle.etp_values.specs.declared.code.ErrorCode.TheVariants.{InvalidArgument, InvalidMessage, InvalidMessageType, InvalidState, TooManyTransactions}
use Rattle.keyed_requests.specs.declared.sending.Outcome.TheVariants.{Replies, Calls}
use Rattle.keyed_requests.specs.declared.sending.Sending.{Sending}
use Rattle.keyed_requests.specs.declared.sending.Sending.TheVariants.{Reply, Refusal, RefusedKeys, Notice}
use Rattle.msg_core.specs.declared.core_messages.CoreMessage.{CoreMessage}
use Rattle.msg_core.specs.declared.core_messages.CoreMessage.TheVariants as core
use Rattle.msg_core.specs.declared.transaction_messages.TransactionMessage.{TransactionMessage}
use Rattle.msg_core.specs.declared.transaction_messages.TransactionMessage.TheVariants as transaction
use Rattle.session_rows.specs.Dataspaces.{DataspaceOutcome, dataspace_outcome, dataspace_reply}
use Rattle.session_rows.specs.Transactions as transactions
use Rattle.store_machine.specs.declared.call.Answer.{Answer}
use Rattle.store_machine.specs.declared.call.StoreCall.{StoreCall}
use Rattle.store_machine.specs.declared.call.StoreCall.TheVariants as call
use Rattle.tx_stage.specs.Staging.{Transaction}
use Rattle.session_core.specs.declared.state.Arrived.{Arrived}
use Rattle.session_core.specs.declared.state.Arrived.TheVariants as arrives
use Rattle.session_core.specs.declared.state.End.TheVariants as end
use Rattle.session_core.specs.declared.state.Live.TheVariants as live
use Rattle.session_core.specs.declared.state.Part.{Part}
use Rattle.session_core.specs.declared.state.Pending.{Pending}
use Rattle.session_core.specs.declared.state.Pending.TheVariants as pending
use Rattle.session_core.specs.declared.state.Phase.{Phase}
use Rattle.session_core.specs.declared.state.Phase.TheVariants as phase
use Rattle.session_core.specs.declared.state.Request.{Request}
use Rattle.session_core.specs.declared.state.Saying.{Saying}
use Rattle.session_core.specs.State.{State}
use Rattle.session_core.specs.Arriving.{request_of}
use Rattle.session_core.specs.Machine.{Taken, accepting, by_event, given_to, may_acknowledge, no_call, on_core, on_message, on_outcome, on_poll, on_protocol, on_received, on_row, on_transactions, protocol_refusal, refuses, unread}
use Rattle.session_core.specs.Run.{hears}
use Rattle.session_core.specs.Replies.{saying_of, sayings_of, receipt, refusal, to_request}
use Rattle.session_core.specs.Sending.{blobs_after, blobs_sent, cut_all, is_spent, max_id, next_after, said, spent_phase}
use Rattle.session_core.specs.Serial.{is_request_as, is_staged}

-- ---- sayings with no blob

abbrev IsQuiet : Message → Type 0
IsQuiet m = (limit : ℕ) → blobs_in limit m ≡ 0

abbrev AreQuiet : List Saying → Type 0
AreQuiet xs = AllByRecursion (λ (y : Saying). IsQuiet y.message) xs

no_more : (blobs k : ℕ) → blobs ≤ 2 ^ 64 - 1 → k ≡ 0 → min (blobs + k) (2 ^ 64 - 1) ≡ blobs
no_more blobs k low none = grind arith

quiet-blobs : (limit blobs : ℕ) (xs : List Saying) → blobs ≤ 2 ^ 64 - 1 → AreQuiet xs → blobs_sent limit blobs xs ≡ blobs
quiet-blobs limit blobs [] low quiet = refl
quiet-blobs limit blobs (x ∷ xs) low quiet =
    ap (λ b. blobs_sent limit b xs) (no_more blobs (blobs_in limit x.message) low (quiet.0 limit)) ∙ quiet-blobs limit blobs xs low quiet.1

at_most : (a b : ℕ) → min a b ≤ b
at_most a b = grind arith

-- a count of blobs stays one of 64 bits
pub blobs-low : (limit blobs : ℕ) (xs : List Saying) → blobs ≤ 2 ^ 64 - 1 → blobs_sent limit blobs xs ≤ 2 ^ 64 - 1
blobs-low limit blobs [] low = low
blobs-low limit blobs (x ∷ xs) low = blobs-low limit (blobs_after limit blobs x.message) xs (at_most (blobs + blobs_in limit x.message) (2 ^ 64 - 1))

module _ {M : Type 0} (wrapped : M → Message) (quiet : (m : M) → IsQuiet (wrapped m)) where
  quiet-saying : (x : Sending M) → IsQuiet (saying_of wrapped x).message
  quiet-saying (Reply m) = quiet m
  quiet-saying (Refusal code) = λ limit. refl
  quiet-saying (RefusedKeys keys) = λ limit. refl
  quiet-saying (Notice m) = quiet m

  quiet-sayings : (xs : List (Sending M)) → AreQuiet (sayings_of wrapped xs)
  quiet-sayings [] = tt
  quiet-sayings (x ∷ xs) = (quiet-saying x, quiet-sayings xs)

-- ---- own ids grow

pub next-grows : (id : ℕ) (ps : List Part) → id ≤ next_after id ps
next-grows id [] = omega arith
next-grows id (p ∷ ps) = by (nat_le id max_id) (next-grows (id + 2) ps)
  where
    by : (b : Bool) → id + 2 ≤ next_after (id + 2) ps → id ≤ (if b then next_after (id + 2) ps else id)
    by true le = omega (arith, le)
    by false le = omega arith

-- ---- a state that differs from another at most in what no request of a transaction sees

abbrev pub IsBegun : Phase → Type 0
IsBegun (phase.Live live.Waiting) = ⊥
IsBegun (phase.Live live.Open) = Unit {0}
IsBegun (phase.Ended e) = Unit {0}

pub begun-spent : (b : Bool) (p : Phase) → IsBegun p → IsBegun (spent_phase b p)
begun-spent true p is = tt
begun-spent false p is = is

abbrev pub Beside : State → State → Type 0
Beside s t =
    (t.config ≡ s.config) × (t.number ≡ s.number) × (t.last_id ≡ s.last_id) × (t.accepted ≡ s.accepted) × (t.formats ≡ s.formats) × (t.limit ≡ s.limit)
    × (t.blobs ≡ s.blobs) × (t.stage ≡ s.stage) × (t.starts ≡ s.starts) × (t.joiner ≡ s.joiner) × (s.next_id ≤ t.next_id) × IsBegun t.phase

same : (s : State) → IsBegun s.phase → Beside s s
same s is = (refl, refl, refl, refl, refl, refl, refl, refl, refl, refl, (omega arith), is)

pub beside-trans : (s t u : State) → Beside s t → Beside t u → Beside s u
beside-trans s t u a b = (b.0 ∙ a.0, b.1 ∙ a.1, b.2 ∙ a.2, b.3 ∙ a.3, b.4 ∙ a.4, b.5 ∙ a.5, b.6 ∙ a.6, b.7 ∙ a.7, b.8 ∙ a.8, b.9 ∙ a.9, omega (arith, a.10, b.10), b.11)

-- what a state has to be for that
abbrev pub IsReady : State → Type 0
IsReady s = (s.blobs ≤ 2 ^ 64 - 1) × IsBegun s.phase

beside-said : (r : Request) (xs : List Saying) (s : State) → IsReady s → AreQuiet xs → Beside s (said r xs s)
beside-said r xs s ready quiet =
    (refl, refl, refl, refl, refl, refl, quiet-blobs s.limit s.blobs xs ready.0 quiet, refl, refl, refl, next-grows s.next_id (cut_all s.limit s.number s.blobs xs), begun-spent (is_spent s.next_id (cut_all s.limit s.number s.blobs xs)) s.phase ready.1)

-- ---- an event that leaves the transaction

-- what is kept for a call that is not the transaction's
abbrev pub IsApart : Option Pending → Type 0
IsApart None = Unit {0}
IsApart (Some (pending.Dataspaces r p)) = Unit {0}
IsApart (Some (pending.Objects r p)) = ⊥
IsApart (Some (pending.Arrays r p)) = ⊥
IsApart (Some (pending.Staged r keys p)) = ⊥
IsApart (Some (pending.Transactions r p)) = ⊥
IsApart (Some (pending.Loads r p)) = Unit {0}
IsApart (Some (pending.Subscriptions r p)) = Unit {0}

abbrev pub KeepsApart : Option StoreCall → Option Pending → Type 0
KeepsApart None kept = kept ≡ None
KeepsApart (Some c) kept = IsApart kept

abbrev pub Leaves : State → Taken → Type 0
Leaves s t = Beside s t.state × KeepsApart t.call t.state.pending

-- what an event does that is not a request of the transaction
pub data Aside (s : State) (x : Transaction) (t : Taken) : Type 0 where
  Goes : Leaves s t → Aside s x t
  Commits : t.state.stage ≡ None → t.call ≡ Some (call.Commit (transactions.to_commit x)) → Aside s x t
  Drops : t.state.stage ≡ None → t.call ≡ None → Aside s x t

says : (r : Request) (xs : List Saying) (s : State) → IsReady s → s.pending ≡ None → AreQuiet xs → Leaves s (no_call (said r xs s))
says r xs s ready idle quiet = (beside-said r xs s ready quiet, idle)

refused : (r : Request) (c : ErrorCode) (s : State) → IsReady s → s.pending ≡ None → Leaves s (no_call (refuses r c s))
refused r c s ready idle = says r (to_request (refusal c) ∷ []) s ready idle ((λ limit. refl), tt)

-- ---- each family

dataspaces : (r : Request) (o : DataspaceOutcome) (s : State) → IsReady s → s.pending ≡ None → Leaves s (on_outcome message.Dataspace pending.Dataspaces r o s)
dataspaces r (Replies xs) s ready idle = says r (sayings_of message.Dataspace xs) s ready idle (quiet-sayings message.Dataspace (λ m. λ limit. refl) xs)
dataspaces r (Calls c p) s ready idle = (same s ready.1, tt)

loads_by : (r : Request) (o : loads.LoadOutcome) (s : State) → IsReady s → s.pending ≡ None → Leaves s (on_outcome message.ChannelDataLoad pending.Loads r o s)
loads_by r (Replies xs) s ready idle = says r (sayings_of message.ChannelDataLoad xs) s ready idle (quiet-sayings message.ChannelDataLoad (λ m. λ limit. refl) xs)
loads_by r (Calls c p) s ready idle = (same s ready.1, tt)

subscribes_by : (r : Request) (o : subscribes.SubscribeOutcome) (s : State) → IsReady s → s.pending ≡ None → Leaves s (on_outcome message.ChannelSubscribe pending.Subscriptions r o s)
subscribes_by r (Replies xs) s ready idle = says r (sayings_of message.ChannelSubscribe xs) s ready idle (quiet-sayings message.ChannelSubscribe (λ m. λ limit. refl) xs)
subscribes_by r (Calls c p) s ready idle = (same s ready.1, tt)

polled : (c : Option StoreCall) (s : State) → IsReady s → s.pending ≡ None → Leaves s (on_poll c s)
polled None s ready idle = (same s ready.1, idle)
polled (Some c) s ready idle = (same s ready.1, tt)

of_core : (r : Request) (moment : ℤ) (m : CoreMessage) (s : State) → IsReady s → s.pending ≡ None → Leaves s (no_call (on_core live.Open r moment m s))
of_core r moment (core.RequestSession m) s ready idle = refused r InvalidState s ready idle
of_core r moment (core.OpenSession m) s ready idle = refused r InvalidMessageType s ready idle
of_core r moment (core.CloseSession m) s ready idle = (same (record s { phase = phase.Ended end.Closed }) tt, idle)
of_core r moment (core.Ping m) s ready idle = says r (to_request (message.Core (core.Pong (record { current_date_time = moment }))) ∷ []) s ready idle ((λ limit. refl), tt)
of_core r moment (core.Pong m) s ready idle = (same s ready.1, idle)
of_core r moment (core.ProtocolException m) s ready idle = (same s ready.1, idle)
of_core r moment (core.Acknowledge m) s ready idle = (same s ready.1, idle)

-- ---- transactions: one is open

module _ (r : Request) (x : Transaction) (s : State) (is : s.stage ≡ Some x) (ready : IsReady s) (idle : s.pending ≡ None) where
  kept_open : (c : ErrorCode) → Aside s x (on_transactions r (transactions.refuses (Some x) s.starts c) s)
  kept_open c =
      let t : State = record s { stage = Some x; starts = s.starts } in
      let b = says r (sayings_of message.Transaction (Refusal c ∷ [])) t ready idle (quiet-sayings message.Transaction (λ m. λ limit. refl) (Refusal c ∷ [])) in
      Goes ((b.0.0, b.0.1, b.0.2, b.0.3, b.0.4, b.0.5, b.0.6, sym is, b.0.8, b.0.9, b.0.10, b.0.11), b.1)

  committing : (id : List ℕ) (b : Bool) → Aside s x (on_transactions r (if b then transactions.leaves None s.starts (transactions.commit id x) else transactions.refuses (Some x) s.starts InvalidArgument) s)
  committing id true = Commits refl refl
  committing id false = kept_open InvalidArgument

  dropping : (id : List ℕ) (b : Bool) → Aside s x (on_transactions r (if b then transactions.leaves None s.starts (transactions.rollback id x) else transactions.refuses (Some x) s.starts InvalidArgument) s)
  dropping id true = Drops refl refl
  dropping id false = kept_open InvalidArgument

  in_open : (m : TransactionMessage) → Aside s x (on_transactions r (transactions.transaction_request s.config.instance s.number (Some x) s.starts m) s)
  in_open (transaction.StartTransaction m) = kept_open TooManyTransactions
  in_open (transaction.CommitTransaction m) = committing m.transaction_uuid (bytes_eq x.id m.transaction_uuid)
  in_open (transaction.RollbackTransaction m) = dropping m.transaction_uuid (bytes_eq x.id m.transaction_uuid)
  in_open (transaction.StartTransactionResponse m) = kept_open InvalidMessageType
  in_open (transaction.CommitTransactionResponse m) = kept_open InvalidMessageType
  in_open (transaction.RollbackTransactionResponse m) = kept_open InvalidMessageType

  of_transactions : (m : TransactionMessage) → Aside s x (on_transactions r (transactions.transaction_request s.config.instance s.number s.stage s.starts m) s)
  of_transactions m = subst (λ st. Aside s x (on_transactions r (transactions.transaction_request s.config.instance s.number st s.starts m) s)) (sym is) (in_open m)

-- ---- any message that is not of Store or DataArray

-- the header of a message names its protocol; those of Core may be under any
abbrev pub IsNamed : Header → Message → Type 0
IsNamed h (message.Core m) = Unit {0}
IsNamed h m = h.protocol ≡ pos (protocol_of m)

staged-named : (h : Header) (n : ℕ) → h.protocol ≡ pos n → is_staged (pos n) ≡ true → is_staged h.protocol ≡ false → ⊥
staged-named h n named is isnt = false≢true (sym isnt ∙ ap is_staged named ∙ is)

module _ (h : Header) (moment : ℤ) (x : Transaction) (s : State) (is : s.stage ≡ Some x) (ready : IsReady s) (idle : s.pending ≡ None) (outside : is_staged h.protocol ≡ false) where
  of_row : (m : Message) → IsNamed h m → Aside s x (on_row h moment m s)
  of_row (message.Dataspace m) named = Goes (dataspaces (request_of h) (dataspace_outcome m (is_some s.stage)) s ready idle)
  of_row (message.Store m) named = absurd (staged-named h 4 named refl outside)
  of_row (message.DataArray m) named = absurd (staged-named h 9 named refl outside)
  of_row (message.Transaction m) named = of_transactions (request_of h) x s is ready idle m
  of_row (message.ChannelSubscribe m) named = let l = subscribes.subscribe_outcome s.subs m in Goes (subscribes_by (request_of h) l.outcome (record s { subs = l.subs }) ready idle)
  of_row (message.ChannelDataLoad m) named = let l = loads.load_outcome s.opens moment m in Goes (loads_by (request_of h) l.outcome (record s { opens = l.opens }) ready idle)
  of_row (message.Core m) named = Goes (refused (request_of h) InvalidMessageType s ready idle)

  of_protocol : (why : Option ErrorCode) (m : Message) → IsNamed h m → Aside s x (on_protocol why h moment m s)
  of_protocol (Some c) m named = Goes (refused (request_of h) c s ready idle)
  of_protocol None m named = of_row m named

  of_message : (m : Message) → IsNamed h m → Aside s x (on_message live.Open h moment m s)
  of_message (message.Core m) named = Goes (of_core (request_of h) moment m s ready idle)
  of_message (message.Dataspace m) named = of_protocol (protocol_refusal live.Open s.accepted h.protocol) (message.Dataspace m) named
  of_message (message.Store m) named = of_protocol (protocol_refusal live.Open s.accepted h.protocol) (message.Store m) named
  of_message (message.DataArray m) named = of_protocol (protocol_refusal live.Open s.accepted h.protocol) (message.DataArray m) named
  of_message (message.Transaction m) named = of_protocol (protocol_refusal live.Open s.accepted h.protocol) (message.Transaction m) named
  of_message (message.ChannelSubscribe m) named = of_protocol (protocol_refusal live.Open s.accepted h.protocol) (message.ChannelSubscribe m) named
  of_message (message.ChannelDataLoad m) named = of_protocol (protocol_refusal live.Open s.accepted h.protocol) (message.ChannelDataLoad m) named

  of_received : (p : Phase) → IsBegun p → (m : Message) → IsNamed h m → Aside s x (on_received p h moment m s)
  of_received (phase.Live live.Waiting) begun m named = absurd begun
  of_received (phase.Live live.Open) begun m named = of_message m named
  of_received (phase.Ended e) begun m named = Goes (same s ready.1, idle)

-- from a state next to another one
aside-from : (s t : State) (x : Transaction) (u : Taken) → Beside s t → Aside t x u → Aside s x u
aside-from s t x u b (Goes l) = Goes (beside-trans s t u.state b l.0, l.1)
aside-from s t x u b (Commits gone c) = Commits gone c
aside-from s t x u b (Drops gone c) = Drops gone c

of_fresh : (h : Header) (moment : ℤ) (m : Message) (x : Transaction) (s : State) → s.stage ≡ Some x → IsReady s → s.pending ≡ None → is_staged h.protocol ≡ false → IsNamed h m → (b : Bool)
    → let t = (if b then said (request_of h) (receipt ∷ []) s else s) in Aside s x (on_received t.phase h moment m t)
of_fresh h moment m x s is ready idle outside named true =
    let t = said (request_of h) (receipt ∷ []) s in
    let b = beside-said (request_of h) (receipt ∷ []) s ready ((λ limit. refl), tt) in
    aside-from s t x (on_received t.phase h moment m t) b (of_received h moment x t is (blobs-low s.limit s.blobs (receipt ∷ []) ready.0, b.11) idle outside t.phase b.11 m named)
of_fresh h moment m x s is ready idle outside named false = of_received h moment x s is ready idle outside s.phase ready.1 m named

-- what arrived is named as it is
abbrev pub AreNamed : Arrived → Type 0
AreNamed (arrives.Fresh h moment m) = IsNamed h m
AreNamed _ = Unit {0}

-- the state once the id of what arrived is the last one, if it is accepted
abbrev pub accepted : Arrived → State → State
accepted (arrives.Refused r c) s = accepting r s
accepted (arrives.Fresh h moment m) s = accepting (request_of h) s
accepted _ s = s

pub event_aside : (a : Arrived) (x : Transaction) (s : State) → s.stage ≡ Some x → IsReady s → s.pending ≡ None → is_request_as a ≡ false → AreNamed a → Aside (accepted a s) x (by_event live.Open a s)
event_aside (arrives.Unreadable c) x s is ready idle outside named = Goes (refused unread c s ready idle)
event_aside (arrives.Stale r) x s is ready idle outside named = Goes (refused r InvalidMessage s ready idle)
event_aside (arrives.Refused r c) x s is ready idle outside named = Goes (refused r c (accepting r s) ready idle)
event_aside (arrives.Fresh h moment m) x s is ready idle outside named = of_fresh h moment m x (accepting (request_of h) s) is ready idle outside named (has_flag h.flags acknowledge && may_acknowledge m)
event_aside (arrives.Polled front) x s is ready idle outside named = Goes (polled (subscribes.news_call s.subs front) s ready idle)

-- ---- the answer to a call that is not the transaction's

pub answer_beside : (kept : Option Pending) (a : Answer) (s : State) → IsApart kept → IsReady s → Beside s (given_to kept a s) × ((given_to kept a s).pending ≡ s.pending)
answer_beside None a s apart ready = (same s ready.1, refl)
answer_beside (Some (pending.Dataspaces r p)) a s apart ready = (beside-said r (sayings_of message.Dataspace (dataspace_reply p a.reply)) s ready (quiet-sayings message.Dataspace (λ m. λ limit. refl) (dataspace_reply p a.reply)), refl)
answer_beside (Some (pending.Objects r p)) a s apart ready = absurd apart
answer_beside (Some (pending.Arrays r p)) a s apart ready = absurd apart
answer_beside (Some (pending.Staged r keys p)) a s apart ready = absurd apart
answer_beside (Some (pending.Transactions r p)) a s apart ready = absurd apart
answer_beside (Some (pending.Loads r p)) a s apart ready =
    let l = loads.load_reply s.config.channels s.opens p a.reply in
    (beside-said r (sayings_of message.ChannelDataLoad l.sendings) (record s { opens = l.opens }) ready (quiet-sayings message.ChannelDataLoad (λ m. λ limit. refl) l.sendings), refl)
answer_beside (Some (pending.Subscriptions r p)) a s apart ready =
    let t = subscribes.subscribe_reply s.config.channels s.config.lag s.subs p a in
    (beside-said r (sayings_of message.ChannelSubscribe t.sendings) (record s { subs = t.subs }) ready (quiet-sayings message.ChannelSubscribe (λ m. λ limit. refl) t.sendings), refl)

pub heard_beside : (s : State) (a : Answer) → IsApart s.pending → IsReady s → Beside s (hears s a) × ((hears s a).pending ≡ None)
unfolding hears
heard_beside s a apart ready = answer_beside s.pending a (record s { pending = None }) apart ready
