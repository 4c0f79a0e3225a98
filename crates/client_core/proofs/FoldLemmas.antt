-- A channel's copy is what the changes leave that were returned since its subscription, whatever happens.
use Rattle.std.specs.Prelude.{◌≡◌, ℕ, ℤ, Bool, true, false, not, ◌||◌, List, [], ◌∷◌, ◌++◌, Option, Some, None, option_map, Result, Ok, Err, fold, map, refl, if◌then◌else◌}
use Rattle.std.specs.List.{flat_map, list_any}
use Rattle.std.specs.Map.{values_of}
use Rattle.std.specs.Ordering.{int_eq}
use Rattle.std.proofs.Common.{ap, sym, ◌∙◌, append-nil}
use Rattle.channel_store.specs.Points.{after, copy}
use Rattle.channel_store.specs.declared.change.What.{What}
use Rattle.channel_store.specs.declared.copy.ChangeMsg.{ChangeMsg}
use Rattle.etp_schema.specs.declared.body.Side.TheVariants.{Server}
use Rattle.etp_values.specs.declared.point.Point.{Point}
use Rattle.etp_frame.specs.Header.{final_part, has_flag}
use Rattle.etp_frame.specs.Joining.{Awaited, joins}
use Rattle.etp_frame.specs.Reading.{read_of}
use Rattle.etp_frame.specs.declared.error.FrameError.{FrameError}
use Rattle.etp_frame.specs.declared.header.Header.{Header}
use Rattle.etp_frame.specs.declared.joining.JoinError.{JoinError}
use Rattle.etp_frame.specs.declared.joining.Joined.{Joined}
use Rattle.etp_frame.specs.declared.joining.Joined.TheVariants as j
use Rattle.etp_frame.specs.declared.message.Message.{Message}
use Rattle.etp_frame.specs.declared.message.Message.TheVariants as message
use Rattle.msg_channel.specs.declared.channel_records.ChannelMetadataRecord.{ChannelMetadataRecord}
use Rattle.msg_channel.specs.declared.channel_subscribe_messages.ChannelSubscribeMessage.{ChannelSubscribeMessage}
use Rattle.msg_channel.specs.declared.channel_subscribe_messages.ChannelSubscribeMessage.TheVariants as subscribe
use Rattle.msg_core.specs.declared.core_messages.CoreMessage.{CoreMessage}
use Rattle.msg_core.specs.declared.core_messages.CoreMessage.TheVariants as core
use Rattle.msg_core.specs.declared.core_messages.ProtocolException.{ProtocolException}
use Rattle.client_core.specs.Answers.{channel_in, done, due_at, grants_object, grants_space, grants_subscription, meta_of, moment_in, object_in, opened_in, points_in, says_cut, says_deleted, says_replaced, session_in, spaces_in, subscribed}
use Rattle.client_core.specs.Asking.{asked, asked_by, begun, closed_if, due_of, is_close, is_spent, pieces, sends_message}
use Rattle.client_core.specs.Joining.{grown, is_broken}
use Rattle.client_core.specs.Laws.{CopiesAreFolds, Event, Asks, Takes, accepts, change_of, handed, is_subscription, since, since_event, stepped, told_of}
use Rattle.client_core.specs.Messages.{message_of}
use Rattle.client_core.specs.Notices.{are_live, copy_in, follow_all, notice}
use Rattle.client_core.specs.State.{Heard, State, is_ended, is_open}
use Rattle.client_core.specs.Taking.{Taken, by_answer, by_changes, by_due, by_flag, by_kind, by_phase, core_whole, fails, gives, has_objects, hears, in_order, in_phase, is_closing, is_fresh, is_silent, may_come, on_bytes, on_joined, on_message, on_read, on_whole, refusal, subscribe_whole, told}
use Rattle.client_core.specs.declared.ask.Ask.{Ask}
use Rattle.client_core.specs.declared.got.ClientError.TheVariants as error
use Rattle.client_core.specs.declared.got.Got.TheVariants as got
use Rattle.client_core.specs.declared.got.Space.{Space}
use Rattle.client_core.specs.declared.state.Asked.{Asked}
use Rattle.client_core.specs.declared.state.Due.{Due}
use Rattle.client_core.specs.declared.state.Due.TheVariants as due
use Rattle.client_core.proofs.CopyLemmas.{copy_more, follows_all, stopped_keeps, subscribed_copy}

-- the copy of a channel is what these changes leave
abbrev Stands : ℤ → Option (List What) → Heard → Type 0
Stands c before s = copy_in c s.channels ≡ option_map copy before

-- What a message leaves and returns keeps this property of a channel's copy. The message came to a client with these open asks.
abbrev Keeps : ℤ → List Asked → Option (List What) → Taken → Type 0
Keeps c asks before t = copy_in c t.state.channels ≡ option_map copy (handed c asks before t.result)

if_keeps : (c : ℤ) (asks : List Asked) (before : Option (List What)) (b : Bool) (x y : Taken) → Keeps c asks before x → Keeps c asks before y → Keeps c asks before (if b then x else y)
if_keeps c asks before true x y p q = p
if_keeps c asks before false x y p q = q

-- ---- what is returned

nothing_more : (before : Option (List What)) → option_map copy before ≡ option_map copy (option_map (λ ws. ws ++ []) before)
nothing_more None = refl
nothing_more (Some ws) = ap (λ l. Some (copy l)) (sym (append-nil ws))

changes_accept : (c : ℤ) (asks : List Asked) (cs : List ChangeMsg) → list_any (accepts c asks) (map got.Change cs) ≡ false
changes_accept c asks [] = refl
changes_accept c asks (x ∷ cs) = changes_accept c asks cs

changes_told : (c : ℤ) (cs : List ChangeMsg) → flat_map (told_of c) (map got.Change cs) ≡ flat_map (change_of c) cs
changes_told c [] = refl
changes_told c (x ∷ cs) = ap (λ l. change_of c x ++ l) (changes_told c cs)

-- changes that are handed out and followed
changes_keep : (c : ℤ) (asks : List Asked) (before : Option (List What)) (id : ℤ) (cs : Option (List ChangeMsg)) (s : Heard) → Stands c before s → Keeps c asks before (by_changes id cs s)
changes_keep c asks before id None s stands = stands
changes_keep c asks before id (Some cs) s stands =
    if_keeps c asks before (are_live s.channels cs) (gives (map got.Change cs) (record s { channels = follow_all s.channels cs })) (fails (error.Unasked id) s) followed stands
  where
    followed : copy_in c (follow_all s.channels cs) ≡ option_map copy (handed c asks before (Ok (map got.Change cs)))
    followed =
        follows_all c cs s.channels
        ∙ ap (option_map (λ ps. fold after ps (flat_map (change_of c) cs))) stands
        ∙ copy_more (flat_map (change_of c) cs) before
        ∙ ap (λ ws. option_map copy (option_map (λ vs. vs ++ ws) before)) (sym (changes_told c cs))
        ∙ ap (λ b. option_map copy (if b then Some [] else option_map (λ ws. ws ++ flat_map (told_of c) (map got.Change cs)) before)) (sym (changes_accept c asks cs))

-- ---- an answer

-- an ask that waits for something else is not a subscription
not_accepted : (c id : ℤ) (asks : List Asked) (d : Due) (before : Option (List What)) → due_at id asks ≡ Some d → is_subscription c (Some d) ≡ false
    → option_map copy before ≡ option_map copy (handed c asks before (Ok (got.Done id ∷ [])))
not_accepted c id asks d before at other =
    nothing_more before
    ∙ ap (λ b. option_map copy (if b || false then Some [] else option_map (λ ws. ws ++ []) before)) (sym (ap (is_subscription c) at ∙ other))

space_keeps : (c : ℤ) (before : Option (List What)) (h : Header) (m : Message) (s : Heard) → Stands c before s → due_at h.correlation s.asks ≡ Some due.SpacePut
    → (b : Bool) → Keeps c s.asks before (by_answer h m due.SpacePut (done h.correlation b) s)
space_keeps c before h m s stands at true = stands ∙ not_accepted c h.correlation s.asks due.SpacePut before at refl
space_keeps c before h m s stands at false = changes_keep c s.asks before h.correlation (notice h m) s stands

object_put_keeps : (c : ℤ) (before : Option (List What)) (h : Header) (m : Message) (s : Heard) → Stands c before s → due_at h.correlation s.asks ≡ Some due.ObjectPut
    → (b : Bool) → Keeps c s.asks before (by_answer h m due.ObjectPut (done h.correlation b) s)
object_put_keeps c before h m s stands at true = stands ∙ not_accepted c h.correlation s.asks due.ObjectPut before at refl
object_put_keeps c before h m s stands at false = changes_keep c s.asks before h.correlation (notice h m) s stands

replacement_keeps : (c : ℤ) (before : Option (List What)) (h : Header) (m : Message) (s : Heard) → Stands c before s → due_at h.correlation s.asks ≡ Some due.Replacement
    → (b : Bool) → Keeps c s.asks before (by_answer h m due.Replacement (done h.correlation b) s)
replacement_keeps c before h m s stands at true = stands ∙ not_accepted c h.correlation s.asks due.Replacement before at refl
replacement_keeps c before h m s stands at false = changes_keep c s.asks before h.correlation (notice h m) s stands

truncation_keeps : (c : ℤ) (before : Option (List What)) (h : Header) (m : Message) (s : Heard) → Stands c before s → due_at h.correlation s.asks ≡ Some due.Truncation
    → (b : Bool) → Keeps c s.asks before (by_answer h m due.Truncation (done h.correlation b) s)
truncation_keeps c before h m s stands at true = stands ∙ not_accepted c h.correlation s.asks due.Truncation before at refl
truncation_keeps c before h m s stands at false = changes_keep c s.asks before h.correlation (notice h m) s stands

deletion_keeps : (c : ℤ) (before : Option (List What)) (h : Header) (m : Message) (s : Heard) → Stands c before s → due_at h.correlation s.asks ≡ Some due.Deletion
    → (b : Bool) → Keeps c s.asks before (by_answer h m due.Deletion (done h.correlation b) s)
deletion_keeps c before h m s stands at true = stands ∙ not_accepted c h.correlation s.asks due.Deletion before at refl
deletion_keeps c before h m s stands at false = changes_keep c s.asks before h.correlation (notice h m) s stands

range_keeps : (c channel : ℤ) (before : Option (List What)) (h : Header) (m : Message) (s : Heard) → Stands c before s
    → (o : Option (List Point)) → Keeps c s.asks before (by_answer h m (due.Range channel) (option_map (got.Points h.correlation) o) s)
range_keeps c channel before h m s stands (Some x) = stands ∙ nothing_more before
range_keeps c channel before h m s stands None = changes_keep c s.asks before h.correlation (notice h m) s stands

spaces_keep : (c : ℤ) (before : Option (List What)) (h : Header) (m : Message) (s : Heard) → Stands c before s
    → (o : Option (List Space)) → Keeps c s.asks before (by_answer h m due.Spaces (option_map (got.Spaces h.correlation) o) s)
spaces_keep c before h m s stands (Some x) = stands ∙ nothing_more before
spaces_keep c before h m s stands None = changes_keep c s.asks before h.correlation (notice h m) s stands

-- the subscription of the channel, or of another
subscription_keeps : (c channel : ℤ) (before : Option (List What)) (h : Header) (m : Message) (s : Heard) → Stands c before s → due_at h.correlation s.asks ≡ Some (due.Subscription channel)
    → (b : Bool) → Keeps c s.asks before (by_answer h m (due.Subscription channel) (done h.correlation b) s)
subscription_keeps c channel before h m s stands at false = changes_keep c s.asks before h.correlation (notice h m) s stands
subscription_keeps c channel before h m s stands at true = by (int_eq channel c) refl
  where
    accepted : (b : Bool) → int_eq channel c ≡ b → is_subscription c (due_at h.correlation s.asks) ≡ b
    accepted b is = ap (is_subscription c) at ∙ is

    by : (b : Bool) → int_eq channel c ≡ b → copy_in c (subscribed channel s.channels) ≡ option_map copy (handed c s.asks before (Ok (got.Done h.correlation ∷ [])))
    by true is =
        subscribed_copy c channel s.channels true is
        ∙ ap (λ b. option_map copy (if b || false then Some [] else option_map (λ ws. ws ++ []) before)) (sym (accepted true is))
    by false is =
        subscribed_copy c channel s.channels false is
        ∙ stands
        ∙ nothing_more before
        ∙ ap (λ b. option_map copy (if b || false then Some [] else option_map (λ ws. ws ++ []) before)) (sym (accepted false is))

opened_keeps : (c : ℤ) (before : Option (List What)) (h : Header) (m : Message) (s : Heard) → Stands c before s → (o : Option (List ℕ)) → Keeps c s.asks before (by_answer h m due.Session (option_map got.Opened o) s)
opened_keeps c before h m s stands (Some x) = stands ∙ nothing_more before
opened_keeps c before h m s stands None = changes_keep c s.asks before h.correlation (notice h m) s stands

object_keeps : (c : ℤ) (before : Option (List What)) (h : Header) (m : Message) (s : Heard) → Stands c before s
    → (o : Option (List ℕ)) → Keeps c s.asks before (by_answer h m due.Object (option_map (got.Object h.correlation) o) s)
object_keeps c before h m s stands (Some x) = stands ∙ nothing_more before
object_keeps c before h m s stands None = changes_keep c s.asks before h.correlation (notice h m) s stands

opening_keeps : (c : ℤ) (before : Option (List What)) (h : Header) (m : Message) (s : Heard) → Stands c before s
    → (o : Option ChannelMetadataRecord) → Keeps c s.asks before (by_answer h m due.Opening (option_map (meta_of h.correlation) o) s)
opening_keeps c before h m s stands (Some x) = stands ∙ nothing_more before
opening_keeps c before h m s stands None = changes_keep c s.asks before h.correlation (notice h m) s stands

metadata_keeps : (c : ℤ) (before : Option (List What)) (h : Header) (m : Message) (s : Heard) → Stands c before s
    → (o : Option ChannelMetadataRecord) → Keeps c s.asks before (by_answer h m due.Metadata (option_map (meta_of h.correlation) o) s)
metadata_keeps c before h m s stands (Some x) = stands ∙ nothing_more before
metadata_keeps c before h m s stands None = changes_keep c s.asks before h.correlation (notice h m) s stands

pong_keeps : (c : ℤ) (before : Option (List What)) (h : Header) (m : Message) (s : Heard) → Stands c before s → (o : Option ℤ) → Keeps c s.asks before (by_answer h m due.Pong (option_map got.Pong o) s)
pong_keeps c before h m s stands (Some x) = stands ∙ nothing_more before
pong_keeps c before h m s stands None = changes_keep c s.asks before h.correlation (notice h m) s stands

due_keeps : (c : ℤ) (before : Option (List What)) (h : Header) (m : Message) (s : Heard) → Stands c before s → (d : Option Due) → due_at h.correlation s.asks ≡ d → Keeps c s.asks before (by_due h m d s)
due_keeps c before h m s stands None at = changes_keep c s.asks before h.correlation (notice h m) s stands
due_keeps c before h m s stands (Some due.Session) at = opened_keeps c before h m s stands (session_in m)
due_keeps c before h m s stands (Some due.SpacePut) at = space_keeps c before h m s stands at (grants_space m)
due_keeps c before h m s stands (Some due.ObjectPut) at = object_put_keeps c before h m s stands at (grants_object m)
due_keeps c before h m s stands (Some due.Object) at = object_keeps c before h m s stands (object_in m)
due_keeps c before h m s stands (Some due.Opening) at = opening_keeps c before h m s stands (opened_in m)
due_keeps c before h m s stands (Some due.Metadata) at = metadata_keeps c before h m s stands (channel_in m)
due_keeps c before h m s stands (Some due.Load) at = changes_keep c s.asks before h.correlation (notice h m) s stands
due_keeps c before h m s stands (Some (due.Subscription channel)) at = subscription_keeps c channel before h m s stands at (grants_subscription m)
due_keeps c before h m s stands (Some due.Replacement) at = replacement_keeps c before h m s stands at (says_replaced m)
due_keeps c before h m s stands (Some due.Truncation) at = truncation_keeps c before h m s stands at (says_cut m)
due_keeps c before h m s stands (Some (due.Range channel)) at = range_keeps c channel before h m s stands (points_in channel m)
due_keeps c before h m s stands (Some due.Spaces) at = spaces_keep c before h m s stands (spaces_in m)
due_keeps c before h m s stands (Some due.Deletion) at = deletion_keeps c before h m s stands at (says_deleted m)
due_keeps c before h m s stands (Some due.Pong) at = pong_keeps c before h m s stands (moment_in m)

told_keeps : (c : ℤ) (before : Option (List What)) (h : Header) (m : Message) (s : Heard) → Stands c before s → Keeps c s.asks before (told h m s)
told_keeps c before h m s stands = due_keeps c before h m s stands (due_at h.correlation s.asks) refl

-- ---- a whole message

refusal_keeps : (c : ℤ) (before : Option (List What)) (id : ℤ) (x : ProtocolException) (d : Option Due) (s : Heard) → Stands c before s → Keeps c s.asks before (refusal id x d s)
refusal_keeps c before id x None s stands = stands
refusal_keeps c before id x (Some d) s stands = stands

core_keeps : (c : ℤ) (before : Option (List What)) (h : Header) (m : CoreMessage) (s : Heard) → Stands c before s → Keeps c s.asks before (core_whole h m s)
core_keeps c before h (core.ProtocolException x) s stands = refusal_keeps c before h.correlation x (due_at h.correlation s.asks) s stands
core_keeps c before h (core.RequestSession x) s stands = told_keeps c before h (message.Core (core.RequestSession x)) s stands
core_keeps c before h (core.OpenSession x) s stands = told_keeps c before h (message.Core (core.OpenSession x)) s stands
core_keeps c before h (core.CloseSession x) s stands = told_keeps c before h (message.Core (core.CloseSession x)) s stands
core_keeps c before h (core.Ping x) s stands = told_keeps c before h (message.Core (core.Ping x)) s stands
core_keeps c before h (core.Pong x) s stands = told_keeps c before h (message.Core (core.Pong x)) s stands
core_keeps c before h (core.Acknowledge x) s stands = told_keeps c before h (message.Core (core.Acknowledge x)) s stands

subscribe_keeps : (c : ℤ) (before : Option (List What)) (h : Header) (m : ChannelSubscribeMessage) (s : Heard) → Stands c before s → Keeps c s.asks before (subscribe_whole h m s)
subscribe_keeps c before h (subscribe.SubscriptionsStopped x) s stands = stopped_keeps c (values_of x.channel_ids) s.channels ∙ stands
subscribe_keeps c before h (subscribe.GetChannelMetadata x) s stands = told_keeps c before h (message.ChannelSubscribe (subscribe.GetChannelMetadata x)) s stands
subscribe_keeps c before h (subscribe.GetChannelMetadataResponse x) s stands = told_keeps c before h (message.ChannelSubscribe (subscribe.GetChannelMetadataResponse x)) s stands
subscribe_keeps c before h (subscribe.SubscribeChannels x) s stands = told_keeps c before h (message.ChannelSubscribe (subscribe.SubscribeChannels x)) s stands
subscribe_keeps c before h (subscribe.ChannelData x) s stands = told_keeps c before h (message.ChannelSubscribe (subscribe.ChannelData x)) s stands
subscribe_keeps c before h (subscribe.RangeReplaced x) s stands = told_keeps c before h (message.ChannelSubscribe (subscribe.RangeReplaced x)) s stands
subscribe_keeps c before h (subscribe.UnsubscribeChannels x) s stands = told_keeps c before h (message.ChannelSubscribe (subscribe.UnsubscribeChannels x)) s stands
subscribe_keeps c before h (subscribe.GetRanges x) s stands = told_keeps c before h (message.ChannelSubscribe (subscribe.GetRanges x)) s stands
subscribe_keeps c before h (subscribe.GetRangesResponse x) s stands = told_keeps c before h (message.ChannelSubscribe (subscribe.GetRangesResponse x)) s stands
subscribe_keeps c before h (subscribe.SubscribeChannelsResponse x) s stands = told_keeps c before h (message.ChannelSubscribe (subscribe.SubscribeChannelsResponse x)) s stands
subscribe_keeps c before h (subscribe.ChannelsTruncated x) s stands = told_keeps c before h (message.ChannelSubscribe (subscribe.ChannelsTruncated x)) s stands

whole_keeps : (c : ℤ) (before : Option (List What)) (h : Header) (m : Message) (s : Heard) → Stands c before s → Keeps c s.asks before (on_whole h m s)
whole_keeps c before h (message.Core x) s stands = core_keeps c before h x s stands
whole_keeps c before h (message.ChannelSubscribe x) s stands = subscribe_keeps c before h x s stands
whole_keeps c before h (message.Transaction x) s stands = told_keeps c before h (message.Transaction x) s stands
whole_keeps c before h (message.Dataspace x) s stands = told_keeps c before h (message.Dataspace x) s stands
whole_keeps c before h (message.Store x) s stands = told_keeps c before h (message.Store x) s stands
whole_keeps c before h (message.DataArray x) s stands = told_keeps c before h (message.DataArray x) s stands
whole_keeps c before h (message.ChannelDataLoad x) s stands = told_keeps c before h (message.ChannelDataLoad x) s stands

-- ---- parts, chunks, and messages at first sight

flag_keeps : (c : ℤ) (before : Option (List What)) (b : Bool) (h : Header) (m : Message) (s : Heard) → Stands c before s → Keeps c s.asks before (by_flag b h m s)
flag_keeps c before true h m s stands = whole_keeps c before h m (record s { kept = None }) stands
flag_keeps c before false h m s stands = stands ∙ nothing_more before

joined_keeps : (c : ℤ) (before : Option (List What)) (h : Header) (r : Result (Joined × Option Awaited) JoinError) (s : Heard) → Stands c before s → Keeps c s.asks before (on_joined h r s)
joined_keeps c before h (Err e) s stands = stands
joined_keeps c before h (Ok (j.More, w)) s stands = stands ∙ nothing_more before
joined_keeps c before h (Ok (j.Whole m, w)) s stands = whole_keeps c before h m (record s { joiner = w }) stands

kind_keeps : (c : ℤ) (before : Option (List What)) (b : Bool) (h : Header) (m : Message) (s : Heard) → Stands c before s → Keeps c s.asks before (by_kind b h m s)
kind_keeps c before true h m s stands = joined_keeps c before h (joins s.joiner h m) s stands
kind_keeps c before false h m s stands = flag_keeps c before (has_flag h.flags final_part) h (grown s.kept m) s stands

order_keeps : (c : ℤ) (before : Option (List What)) (h : Header) (m : Message) (s : Heard) → Stands c before s → Keeps c s.asks before (in_order h m s)
order_keeps c before h m s stands = if_keeps c s.asks before (is_broken s.kept h m) _ _ stands (kind_keeps c before (has_objects m) h m s stands)

phase_keeps : (c : ℤ) (before : Option (List What)) (b : Bool) (h : Header) (m : Message) (s : Heard) → Stands c before s → Keeps c s.asks before (in_phase b h m s)
phase_keeps c before true h m s stands = order_keeps c before h m s stands
phase_keeps c before false h m s stands = stands

message_keeps : (c : ℤ) (before : Option (List What)) (h : Header) (m : Message) (s : Heard) → Stands c before s → Keeps c s.asks before (on_message h m s)
message_keeps c before h m s stands =
    if_keeps c s.asks before (is_silent m) _ _ (stands ∙ nothing_more before)
    (if_keeps c s.asks before (is_closing m) _ _ (stands ∙ nothing_more before) (phase_keeps c before (may_come s.phase m) h m s stands))

read_keeps : (c : ℤ) (before : Option (List What)) (h : Header) (m : Message) (s : Heard) → Stands c before s → Keeps c s.asks before (on_read h m s)
read_keeps c before h m s stands = if_keeps c s.asks before (is_fresh s.last h.id) _ _ (message_keeps c before h m (record s { last = h.id }) stands) stands

bytes_keep : (c : ℤ) (before : Option (List What)) (r : Result (Header × Message) FrameError) (s : Heard) → Stands c before s → Keeps c s.asks before (on_bytes r s)
bytes_keep c before (Ok x) s stands = read_keeps c before x.0 x.1 s stands
bytes_keep c before (Err e) s stands = stands

ended_keeps : (c : ℤ) (before : Option (List What)) (b : Bool) (bytes : List ℕ) (s : Heard) → Stands c before s → Keeps c s.asks before (by_phase b bytes s)
ended_keeps c before true bytes s stands = stands
ended_keeps c before false bytes s stands = bytes_keep c before (read_of Server bytes) s stands

hears_keeps : (c : ℤ) (before : Option (List What)) (s : Heard) (bytes : List ℕ) → Stands c before s → Keeps c s.asks before (hears s bytes)
unfolding hears
hears_keeps c before s bytes stands = ended_keeps c before (is_ended s.phase) bytes s stands

-- ---- an ask

close_keeps : (c : ℤ) (b : Bool) (s : State) → copy_in c (closed_if b s).heard.channels ≡ copy_in c s.heard.channels
close_keeps c true s = refl
close_keeps c false s = refl

by_keeps : (c : ℤ) (b : Bool) (d : Option Due) (closes : Bool) (m : Message) (s : State) → copy_in c (asked_by b d closes m s).state.heard.channels ≡ copy_in c s.heard.channels
by_keeps c true d closes m s = refl
by_keeps c false d closes m s = close_keeps c closes (sends_message d m s)

asked_keeps : (c : ℤ) (s : State) (a : Ask) (moment : ℤ) → copy_in c (asked s a moment).state.heard.channels ≡ copy_in c s.heard.channels
unfolding asked
asked_keeps c s a moment = by_keeps c (not (is_open s.heard.phase) || is_spent s.next (pieces s (message_of moment a))) (due_of a) (is_close a) (message_of moment a) s

-- ---- whatever happens

event_keeps : (c : ℤ) (before : Option (List What)) (s : State) (e : Event) → Stands c before s.heard → Stands c (since_event c s before e) (stepped s e).heard
event_keeps c before s (Asks a moment) stands = asked_keeps c s a moment ∙ stands
event_keeps c before s (Takes bytes) stands = hears_keeps c before s.heard bytes stands

events_keep : (c : ℤ) (before : Option (List What)) (s : State) (es : List Event) → Stands c before s.heard → Stands c (since c s before es) (fold stepped s es).heard
events_keep c before s [] stands = stands
events_keep c before s (e ∷ es) stands = events_keep c (since_event c s before e) (stepped s e) es (event_keeps c before s e stands)

begun_copy : (c moment : ℤ) → Stands c None (begun moment).heard
unfolding begun
begun_copy c moment = refl

pub copies_are_folds : CopiesAreFolds
copies_are_folds c moment es = events_keep c None (begun moment) es (begun_copy c moment)
