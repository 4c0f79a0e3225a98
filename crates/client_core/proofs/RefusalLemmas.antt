-- Running out of memory is not a refusal of an ask or a message.
use Rattle.std.specs.Prelude.{◌≡◌, ℕ, ℤ, Bool, true, false, List, Option, Some, None, Result, Ok, Err, if◌then◌else◌}
use Rattle.std.proofs.Common.{subst, sym}
use Rattle.channel_store.specs.declared.copy.ChangeMsg.{ChangeMsg}
use Rattle.etp_schema.specs.declared.body.Side.TheVariants.{Server}
use Rattle.etp_frame.specs.Header.{final_part, has_flag}
use Rattle.etp_frame.specs.Joining.{Awaited, joins}
use Rattle.etp_frame.specs.Reading.{read_of}
use Rattle.etp_frame.specs.declared.error.FrameError.{FrameError}
use Rattle.etp_frame.specs.declared.header.Header.{Header}
use Rattle.etp_frame.specs.declared.joining.JoinError.{JoinError}
use Rattle.etp_frame.specs.declared.joining.Joined.{Joined}
use Rattle.etp_frame.specs.declared.joining.Joined.TheVariants as j
use Rattle.etp_frame.specs.declared.message.Message.{Message}
use Rattle.etp_frame.specs.declared.message.Message.TheVariants as message
use Rattle.msg_channel.specs.declared.channel_subscribe_messages.ChannelSubscribeMessage.{ChannelSubscribeMessage}
use Rattle.msg_channel.specs.declared.channel_subscribe_messages.ChannelSubscribeMessage.TheVariants as subscribe
use Rattle.msg_core.specs.declared.core_messages.CoreMessage.{CoreMessage}
use Rattle.msg_core.specs.declared.core_messages.CoreMessage.TheVariants as core
use Rattle.msg_core.specs.declared.core_messages.ProtocolException.{ProtocolException}
use Rattle.client_core.specs.Answers.{answer, due_at}
use Rattle.client_core.specs.Joining.{grown, is_broken}
use Rattle.client_core.specs.Notices.{are_live, notice}
use Rattle.client_core.specs.State.{Heard, State, Step, is_ended}
use Rattle.client_core.specs.Taking.{FailsBy, Steps, Taken, by_answer, by_changes, by_due, by_flag, by_kind, by_phase, core_whole, has_objects, hears, in_order, in_phase, is_closing, is_fresh, is_silent, may_come, on_bytes, on_joined, on_message, on_read, on_whole, refusal, subscribe_whole, told}
use Rattle.client_core.specs.declared.got.ClientError.{ClientError}
use Rattle.client_core.specs.declared.got.ClientError.TheVariants as error
use Rattle.client_core.specs.declared.got.Got.{Got}
use Rattle.client_core.specs.declared.state.Due.{Due}

abbrev pub IsCause : ClientError → Type 0
IsCause error.NoMemory = ⊥
IsCause e = Unit {0}

abbrev pub IsAnswer : {A : Type 0} → Result A ClientError → Type 0
IsAnswer (Ok x) = Unit {0}
IsAnswer (Err e) = IsCause e

-- ---- no step is answered by running out of memory

if_answers : (b : Bool) (x y : Taken) → IsAnswer x.result → IsAnswer y.result → IsAnswer (if b then x else y).result
if_answers true x y p q = p
if_answers false x y p q = q

changes_answer : (id : ℤ) (cs : Option (List ChangeMsg)) (s : Heard) → IsAnswer (by_changes id cs s).result
changes_answer id None s = tt
changes_answer id (Some cs) s = if_answers (are_live s.channels cs) _ _ tt tt

answer_answers : (h : Header) (m : Message) (d : Due) (g : Option Got) (s : Heard) → IsAnswer (by_answer h m d g s).result
answer_answers h m d (Some g) s = tt
answer_answers h m d None s = changes_answer h.correlation (notice h m) s

due_answers : (h : Header) (m : Message) (d : Option Due) (s : Heard) → IsAnswer (by_due h m d s).result
due_answers h m (Some d) s = answer_answers h m d (answer h.correlation d m) s
due_answers h m None s = changes_answer h.correlation (notice h m) s

told_answers : (h : Header) (m : Message) (s : Heard) → IsAnswer (told h m s).result
told_answers h m s = due_answers h m (due_at h.correlation s.asks) s

refusal_answers : (id : ℤ) (x : ProtocolException) (d : Option Due) (s : Heard) → IsAnswer (refusal id x d s).result
refusal_answers id x None s = tt
refusal_answers id x (Some d) s = tt

core_answers : (h : Header) (m : CoreMessage) (s : Heard) → IsAnswer (core_whole h m s).result
core_answers h (core.ProtocolException x) s = refusal_answers h.correlation x (due_at h.correlation s.asks) s
core_answers h (core.RequestSession x) s = told_answers h (message.Core (core.RequestSession x)) s
core_answers h (core.OpenSession x) s = told_answers h (message.Core (core.OpenSession x)) s
core_answers h (core.CloseSession x) s = told_answers h (message.Core (core.CloseSession x)) s
core_answers h (core.Ping x) s = told_answers h (message.Core (core.Ping x)) s
core_answers h (core.Pong x) s = told_answers h (message.Core (core.Pong x)) s
core_answers h (core.Acknowledge x) s = told_answers h (message.Core (core.Acknowledge x)) s

subscribe_answers : (h : Header) (m : ChannelSubscribeMessage) (s : Heard) → IsAnswer (subscribe_whole h m s).result
subscribe_answers h (subscribe.SubscriptionsStopped x) s = tt
subscribe_answers h (subscribe.GetChannelMetadata x) s = told_answers h (message.ChannelSubscribe (subscribe.GetChannelMetadata x)) s
subscribe_answers h (subscribe.GetChannelMetadataResponse x) s = told_answers h (message.ChannelSubscribe (subscribe.GetChannelMetadataResponse x)) s
subscribe_answers h (subscribe.SubscribeChannels x) s = told_answers h (message.ChannelSubscribe (subscribe.SubscribeChannels x)) s
subscribe_answers h (subscribe.ChannelData x) s = told_answers h (message.ChannelSubscribe (subscribe.ChannelData x)) s
subscribe_answers h (subscribe.RangeReplaced x) s = told_answers h (message.ChannelSubscribe (subscribe.RangeReplaced x)) s
subscribe_answers h (subscribe.UnsubscribeChannels x) s = told_answers h (message.ChannelSubscribe (subscribe.UnsubscribeChannels x)) s
subscribe_answers h (subscribe.GetRanges x) s = told_answers h (message.ChannelSubscribe (subscribe.GetRanges x)) s
subscribe_answers h (subscribe.GetRangesResponse x) s = told_answers h (message.ChannelSubscribe (subscribe.GetRangesResponse x)) s
subscribe_answers h (subscribe.SubscribeChannelsResponse x) s = told_answers h (message.ChannelSubscribe (subscribe.SubscribeChannelsResponse x)) s
subscribe_answers h (subscribe.ChannelsTruncated x) s = told_answers h (message.ChannelSubscribe (subscribe.ChannelsTruncated x)) s

whole_answers : (h : Header) (m : Message) (s : Heard) → IsAnswer (on_whole h m s).result
whole_answers h (message.Core x) s = core_answers h x s
whole_answers h (message.ChannelSubscribe x) s = subscribe_answers h x s
whole_answers h (message.Transaction x) s = told_answers h (message.Transaction x) s
whole_answers h (message.Dataspace x) s = told_answers h (message.Dataspace x) s
whole_answers h (message.Store x) s = told_answers h (message.Store x) s
whole_answers h (message.DataArray x) s = told_answers h (message.DataArray x) s
whole_answers h (message.ChannelDataLoad x) s = told_answers h (message.ChannelDataLoad x) s

flag_answers : (b : Bool) (h : Header) (m : Message) (s : Heard) → IsAnswer (by_flag b h m s).result
flag_answers true h m s = whole_answers h m _
flag_answers false h m s = tt

joined_answers : (h : Header) (r : Result (Joined × Option Awaited) JoinError) (s : Heard) → IsAnswer (on_joined h r s).result
joined_answers h (Err e) s = tt
joined_answers h (Ok (j.More, w)) s = tt
joined_answers h (Ok (j.Whole m, w)) s = whole_answers h m _

kind_answers : (b : Bool) (h : Header) (m : Message) (s : Heard) → IsAnswer (by_kind b h m s).result
kind_answers true h m s = joined_answers h (joins s.joiner h m) s
kind_answers false h m s = flag_answers (has_flag h.flags final_part) h (grown s.kept m) s

order_answers : (h : Header) (m : Message) (s : Heard) → IsAnswer (in_order h m s).result
order_answers h m s = if_answers (is_broken s.kept h m) _ _ tt (kind_answers (has_objects m) h m s)

phase_answers : (b : Bool) (h : Header) (m : Message) (s : Heard) → IsAnswer (in_phase b h m s).result
phase_answers true h m s = order_answers h m s
phase_answers false h m s = tt

message_answers : (h : Header) (m : Message) (s : Heard) → IsAnswer (on_message h m s).result
message_answers h m s = if_answers (is_silent m) _ _ tt (if_answers (is_closing m) _ _ tt (phase_answers (may_come s.phase m) h m s))

read_answers : (h : Header) (m : Message) (s : Heard) → IsAnswer (on_read h m s).result
read_answers h m s = if_answers (is_fresh s.last h.id) _ _ (message_answers h m _) tt

bytes_answer : (r : Result (Header × Message) FrameError) (s : Heard) → IsAnswer (on_bytes r s).result
bytes_answer (Ok x) s = read_answers x.0 x.1 s
bytes_answer (Err e) s = tt

ended_answers : (b : Bool) (bytes : List ℕ) (s : Heard) → IsAnswer (by_phase b bytes s).result
ended_answers true bytes s = tt
ended_answers false bytes s = bytes_answer (read_of Server bytes) s

pub hears_answers : (s : Heard) (bytes : List ℕ) → IsAnswer (hears s bytes).result
unfolding hears
hears_answers s bytes = ended_answers (is_ended s.phase) bytes s

-- ---- a call that keeps to its step

cause_fails : {A : Type 0} (e : ClientError) (expected : Step State A) (before left : State) → IsCause e → expected.result ≡ Err e → left ≡ expected.state → FailsBy e expected before left
cause_fails (error.Frame x) expected before left cause is state = (is, state)
cause_fails (error.Id x) expected before left cause is state = (is, state)
cause_fails (error.Unasked x) expected before left cause is state = (is, state)
cause_fails error.State expected before left cause is state = (is, state)
cause_fails (error.Join x) expected before left cause is state = (is, state)
cause_fails (error.Refused id code) expected before left cause is state = (is, state)
cause_fails (error.Stopped reason) expected before left cause is state = (is, state)
cause_fails error.NoMemory expected before left cause is state = absurd cause

pub steps_of : {A : Type 0} (r : Result A ClientError) (expected : Step State A) (before left : State) → IsAnswer r → expected.result ≡ r → left ≡ expected.state → Steps r expected before left
steps_of (Ok x) expected before left cause is state = (is, state)
steps_of (Err e) expected before left cause is state = cause_fails e expected before left cause is state

-- a call that answers and leaves what its step has
pub call_steps : {A : Type 0} (r : Result A ClientError) (expected : Step State A) (before left : State) → IsAnswer expected.result → r ≡ expected.result → left ≡ expected.state → Steps r expected before left
call_steps r expected before left cause is state = steps_of r expected before left (subst IsAnswer (sym is) cause) (sym is) state
