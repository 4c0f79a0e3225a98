-- What a client does with a message.
use Rattle.std.specs.Prelude.{◌≡◌, ℕ, ℤ, pos, Bool, true, false, not, ◌&&◌, ◌||◌, int_lt, int_rem, List, [], ◌∷◌, Option, Some, None, Result, Ok, Err, map, if◌then◌else◌}
use Rattle.std.specs.Map.{values_of}
use Rattle.std.specs.Ordering.{int_eq}
use Rattle.channel_store.specs.declared.copy.ChangeMsg.{ChangeMsg}
use Rattle.etp_schema.specs.declared.body.Side.TheVariants.{Server}
use Rattle.etp_frame.specs.Header.{final_part, has_flag}
use Rattle.etp_frame.specs.Joining.{Awaited, joins}
use Rattle.etp_frame.specs.Reading.{read_of}
use Rattle.etp_frame.specs.declared.error.FrameError.{FrameError}
use Rattle.etp_frame.specs.declared.header.Header.{Header}
use Rattle.etp_frame.specs.declared.joining.JoinError.{JoinError}
use Rattle.etp_frame.specs.declared.joining.JoinError.TheVariants as join
use Rattle.etp_frame.specs.declared.joining.Joined.{Joined}
use Rattle.etp_frame.specs.declared.joining.Joined.TheVariants as j
use Rattle.etp_frame.specs.declared.message.Message.{Message}
use Rattle.etp_frame.specs.declared.message.Message.TheVariants as message
use Rattle.msg_channel.specs.declared.channel_subscribe_messages.ChannelSubscribeMessage.{ChannelSubscribeMessage}
use Rattle.msg_channel.specs.declared.channel_subscribe_messages.ChannelSubscribeMessage.TheVariants as subscribe
use Rattle.msg_channel.specs.declared.channel_subscribe_messages.SubscriptionsStopped.{SubscriptionsStopped}
use Rattle.msg_core.specs.declared.core_messages.CoreMessage.{CoreMessage}
use Rattle.msg_core.specs.declared.core_messages.CoreMessage.TheVariants as core
use Rattle.msg_core.specs.declared.core_messages.ErrorInfo.{ErrorInfo}
use Rattle.msg_core.specs.declared.core_messages.ProtocolException.{ProtocolException}
use Rattle.msg_store.specs.declared.store_messages.StoreMessage.{StoreMessage}
use Rattle.msg_store.specs.declared.store_messages.StoreMessage.TheVariants as store
use Rattle.client_core.specs.Answers.{answer, ask_ended, due_at, without}
use Rattle.client_core.specs.Joining.{grown, is_broken, is_exception}
use Rattle.client_core.specs.Notices.{are_live, follow_all, notice, stopped}
use Rattle.client_core.specs.State.{Heard, State, Step, is_ended}
use Rattle.client_core.specs.declared.got.ClientError.{ClientError}
use Rattle.client_core.specs.declared.got.ClientError.TheVariants as error
use Rattle.client_core.specs.declared.got.Got.{Got}
use Rattle.client_core.specs.declared.got.Got.TheVariants as got
use Rattle.client_core.specs.declared.state.Due.{Due}
use Rattle.client_core.specs.declared.state.Phase.{Phase}
use Rattle.client_core.specs.declared.state.Phase.TheVariants as phase

-- what a message leaves, and what it returns
abbrev pub Taken : Type 0
Taken = Step Heard (List Got)

-- a client that refuses a message has ended
abbrev pub fails : ClientError → Heard → Taken
fails e s = record { state = record s { phase = phase.Ended }; result = Err e }

abbrev pub gives : List Got → Heard → Taken
gives gots s = record { state = s; result = Ok gots }

-- ---- a whole message

-- the first of the codes, if there are any, otherwise 0
abbrev pub first_code : List (List ℕ × ErrorInfo) → ℤ
first_code [] = pos 0
first_code (x ∷ xs) = x.1.code

-- the code of the whole request's refusal, otherwise that of its first key, otherwise 0
abbrev pub code_by : Option ErrorInfo → List (List ℕ × ErrorInfo) → ℤ
code_by (Some info) errors = info.code
code_by None errors = first_code errors

abbrev pub code_of : ProtocolException → ℤ
code_of x = code_by x.error x.errors

-- an exception refuses an open ask, which is over
abbrev pub refusal : ℤ → ProtocolException → Option Due → Heard → Taken
refusal id x None s = fails (error.Unasked id) s
refusal id x (Some d) s = record { state = record s { asks = without id s.asks }; result = Err (error.Refused id (code_of x)) }

-- subscriptions have ended
abbrev pub stops : SubscriptionsStopped → Heard → Taken
stops x s = record { state = record s { channels = stopped (values_of x.channel_ids) s.channels }; result = Err (error.Stopped x.reason) }

-- changes of subscribed channels are taken into their copies and handed on
abbrev pub by_changes : ℤ → Option (List ChangeMsg) → Heard → Taken
by_changes correlation None s = fails (error.Unasked correlation) s
by_changes correlation (Some changes) s =
    if are_live s.channels changes then gives (map got.Change changes) (record s { channels = follow_all s.channels changes })
    else fails (error.Unasked correlation) s

-- an answer ends its ask; anything else has to be a notice
abbrev pub by_answer : Header → Message → Due → Option Got → Heard → Taken
by_answer h m d (Some g) s = gives (g ∷ []) (ask_ended h.correlation d s)
by_answer h m d None s = by_changes h.correlation (notice h m) s

abbrev pub by_due : Header → Message → Option Due → Heard → Taken
by_due h m (Some d) s = by_answer h m d (answer h.correlation d m) s
by_due h m None s = by_changes h.correlation (notice h m) s

abbrev pub told : Header → Message → Heard → Taken
told h m s = by_due h m (due_at h.correlation s.asks) s

abbrev pub core_whole : Header → CoreMessage → Heard → Taken
core_whole h (core.ProtocolException x) s = refusal h.correlation x (due_at h.correlation s.asks) s
core_whole h x s = told h (message.Core x) s

abbrev pub subscribe_whole : Header → ChannelSubscribeMessage → Heard → Taken
subscribe_whole h (subscribe.SubscriptionsStopped x) s = stops x s
subscribe_whole h x s = told h (message.ChannelSubscribe x) s

-- a complete message
abbrev pub on_whole : Header → Message → Heard → Taken
on_whole h (message.Core x) s = core_whole h x s
on_whole h (message.ChannelSubscribe x) s = subscribe_whole h x s
on_whole h x s = told h x s

-- ---- parts and chunks

-- a part is kept until the last one has come, which is flagged
abbrev pub by_flag : Bool → Header → Message → Heard → Taken
by_flag true h m s = on_whole h m (record s { kept = None })
by_flag false h m s = gives [] (record s { kept = Some (record { header = h; message = m }) })

abbrev pub on_part : Header → Message → Heard → Taken
on_part h m s = by_flag (has_flag h.flags final_part) h (grown s.kept m) s

abbrev pub on_joined : Header → Result (Joined × Option Awaited) JoinError → Heard → Taken
on_joined h (Err e) s = fails (error.Join e) (record s { joiner = None })
on_joined h (Ok (j.More, w)) s = gives [] (record s { joiner = w })
on_joined h (Ok (j.Whole m, w)) s = on_whole h m (record s { joiner = w })

abbrev pub store_joins : StoreMessage → Bool
store_joins (store.GetDataObjectsResponse x) = true
store_joins (store.Chunk x) = true
store_joins _ = false

-- objects and the chunks of their data
abbrev pub has_objects : Message → Bool
has_objects (message.Store x) = store_joins x
has_objects _ = false

abbrev pub by_kind : Bool → Header → Message → Heard → Taken
by_kind true h m s = on_joined h (joins s.joiner h m) s
by_kind false h m s = on_part h m s

abbrev pub in_order : Header → Message → Heard → Taken
in_order h m s = if is_broken s.kept h m then fails (error.Join join.Interleaved) s else by_kind (has_objects m) h m s

-- ---- a message at first sight

abbrev pub core_silent : CoreMessage → Bool
core_silent (core.Acknowledge x) = true
core_silent (core.Ping x) = true
core_silent _ = false

-- Acknowledge and Ping give nothing, even between parts
abbrev pub is_silent : Message → Bool
is_silent (message.Core x) = core_silent x
is_silent _ = false

abbrev pub core_closes : CoreMessage → Bool
core_closes (core.CloseSession x) = true
core_closes _ = false

abbrev pub is_closing : Message → Bool
is_closing (message.Core x) = core_closes x
is_closing _ = false

abbrev pub core_opens : CoreMessage → Bool
core_opens (core.OpenSession x) = true
core_opens _ = false

abbrev pub is_opening : Message → Bool
is_opening (message.Core x) = core_opens x
is_opening _ = false

-- before the session is open comes OpenSession or an exception, and OpenSession never comes later
abbrev pub may_come : Phase → Message → Bool
may_come phase.Waiting m = is_opening m || is_exception m
may_come phase.Open m = not (is_opening m)
may_come phase.Ended m = false

abbrev pub in_phase : Bool → Header → Message → Heard → Taken
in_phase true h m s = in_order h m s
in_phase false h m s = fails error.State s

abbrev pub on_message : Header → Message → Heard → Taken
on_message h m s =
    if is_silent m then gives [] s
    else if is_closing m then gives [] (record s { phase = phase.Ended })
    else in_phase (may_come s.phase m) h m s

-- a server's ids are odd, and each is above the one before
abbrev pub is_fresh : ℤ → ℤ → Bool
is_fresh last id = int_lt last id && int_eq (int_rem id (pos 2)) (pos 1)

abbrev pub on_read : Header → Message → Heard → Taken
on_read h m s = if is_fresh s.last h.id then on_message h m (record s { last = h.id }) else fails (error.Id h.id) s

abbrev pub on_bytes : Result (Header × Message) FrameError → Heard → Taken
on_bytes (Ok x) s = on_read x.0 x.1 s
on_bytes (Err e) s = fails (error.Frame e) s

abbrev pub by_phase : Bool → List ℕ → Heard → Taken
by_phase true bytes s = fails error.State s
by_phase false bytes s = on_bytes (read_of Server bytes) s

-- what a client does with the bytes of a message
unfoldable pub hears : Heard → List ℕ → Taken
hears s bytes = by_phase (is_ended s.phase) bytes s

-- ---- the client

abbrev pub with_heard : State → Taken → Step State (List Got)
with_heard s t = record { state = record s { heard = t.state }; result = t.result }

-- the client with what it then knows, and what it answers
abbrev pub takes : State → List ℕ → Step State (List Got)
takes s bytes = with_heard s (hears s.heard bytes)

-- ---- how a call keeps to its step

abbrev pub FailsBy : {A : Type 0} → ClientError → Step State A → State → State → Type 0
FailsBy error.NoMemory expected before left = (left.heard.phase ≡ phase.Ended) × (left.out ≡ before.out)
FailsBy e expected before left = (expected.result ≡ Err e) × (left ≡ expected.state)

-- A call answers what its step does and leaves that state. If memory ran out the client has ended, with the same left to send.
abbrev pub Steps : {A : Type 0} → Result A ClientError → Step State A → State → State → Type 0
Steps (Ok x) expected before left = (expected.result ≡ Ok x) × (left ≡ expected.state)
Steps (Err e) expected before left = FailsBy e expected before left
