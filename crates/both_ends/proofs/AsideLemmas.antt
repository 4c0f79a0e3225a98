-- Messages that send no change and answer no ask for a subscription: they leave a client's subscriptions as they are, except for a stop.
use Rattle.std.proofs.Common.{◌≡◌, ℕ, ℤ, pos, Bool, true, false, cond, not, ◌&&◌, ◌||◌, ◌⊎◌, inl, inr, List, [], ◌∷◌, ◌++◌, Option, Some, None, Result, Ok, Err, filter, is_some, nat_lt, option_map, if◌then◌else◌, refl, sym, ap, subst, ◌∙◌, append-nil}
use Rattle.std.specs.List.{AllByRecursion, list_any}
use Rattle.std.specs.Ordering.{int_eq}
use Rattle.std.proofs.lemmas.Bool.{false≢true}
use Rattle.channel_store.specs.declared.change.What.{What}
use Rattle.client_core.specs.Answers.{done, due_at, is_granted, grants_object, grants_space, grants_subscription, meta_of, moment_in, object_in, opened_in, channel_in, points_in, says_cut, says_deleted, says_replaced, session_in, spaces_in, without, is_loaded}
use Rattle.client_core.specs.Joining.{grown, is_broken, joined}
use Rattle.client_core.specs.Laws.{handed, is_subscription}
use Rattle.client_core.specs.Notices.{changes_of, notice}
use Rattle.client_core.specs.State.{Heard, is_ended}
use Rattle.client_core.specs.Taking.{Taken, by_answer, by_changes, by_due, by_flag, by_kind, core_whole, fails, gives, has_objects, in_phase, is_closing, is_fresh, is_silent, may_come, on_joined, on_message, on_read, on_whole, refusal, store_joins, subscribe_whole, told}
use Rattle.client_core.specs.declared.got.ClientError.{ClientError}
use Rattle.client_core.specs.declared.got.ClientError.TheVariants as error
use Rattle.client_core.specs.declared.got.Got.TheVariants as got
use Rattle.client_core.specs.declared.got.Space.{Space}
use Rattle.etp_values.specs.declared.point.Point.{Point}
use Rattle.client_core.specs.declared.state.Asked.{Asked}
use Rattle.client_core.specs.declared.state.Due.{Due}
use Rattle.client_core.specs.declared.state.Due.TheVariants as due
use Rattle.client_core.specs.declared.state.Kept.{Kept}
use Rattle.client_core.specs.declared.state.Phase.TheVariants as phase
use Rattle.client_parts.specs.Changes.{subscribe_changes}
use Rattle.client_parts.specs.Joining.{merged, subscribe_joined}
use Rattle.etp_frame.specs.Header.{final_part, has_flag}
use Rattle.etp_frame.specs.Joining.{Awaited, Objects, awaits_any, carried, came, chunk_came, data_limit, data_size, grows, is_double, joins, chunk_refusal, shares_blob, store_came, unless_refused, with_piece}
use Rattle.etp_frame.specs.declared.awaiting.Carrier.{Carrier}
use Rattle.etp_frame.specs.declared.awaiting.Carrier.TheVariants as carrier
use Rattle.etp_frame.specs.declared.header.Header.{Header}
use Rattle.etp_frame.specs.declared.joining.JoinError.{JoinError}
use Rattle.etp_frame.specs.declared.joining.JoinError.TheVariants as join
use Rattle.etp_frame.specs.declared.joining.Joined.{Joined}
use Rattle.etp_frame.specs.declared.joining.Joined.TheVariants as j
use Rattle.etp_frame.specs.declared.message.Message.{Message}
use Rattle.etp_frame.specs.declared.message.Message.TheVariants as message
use Rattle.msg_channel.specs.declared.channel_records.ChannelMetadataRecord.{ChannelMetadataRecord}
use Rattle.msg_channel.specs.declared.channel_subscribe_messages.ChannelSubscribeMessage.{ChannelSubscribeMessage}
use Rattle.msg_channel.specs.declared.channel_subscribe_messages.ChannelSubscribeMessage.TheVariants as subscribe
use Rattle.msg_core.specs.declared.core_messages.CoreMessage.{CoreMessage}
use Rattle.msg_core.specs.declared.core_messages.CoreMessage.TheVariants as core
use Rattle.msg_core.specs.declared.core_messages.ProtocolException.{ProtocolException}
use Rattle.msg_store.specs.declared.store_messages.Chunk.{Chunk}
use Rattle.msg_store.specs.declared.store_messages.StoreMessage.{StoreMessage}
use Rattle.msg_store.specs.declared.store_messages.StoreMessage.TheVariants as store
use Rattle.session_core.specs.Granting.{some_key}

-- ---- which messages

abbrev pub subscribe_aside : ChannelSubscribeMessage → Bool
subscribe_aside (subscribe.ChannelData x) = false
subscribe_aside (subscribe.RangeReplaced x) = false
subscribe_aside (subscribe.ChannelsTruncated x) = false
subscribe_aside (subscribe.SubscribeChannelsResponse x) = not (some_key x.success)
subscribe_aside _ = true

abbrev pub is_aside : Message → Bool
is_aside (message.ChannelSubscribe x) = subscribe_aside x
is_aside _ = true

abbrev pub subscribe_stops : ChannelSubscribeMessage → Bool
subscribe_stops (subscribe.SubscriptionsStopped x) = true
subscribe_stops _ = false

abbrev pub is_stop : Message → Bool
is_stop (message.ChannelSubscribe x) = subscribe_stops x
is_stop _ = false

abbrev pub subscribe_empty : ChannelSubscribeMessage → Bool
subscribe_empty (subscribe.SubscribeChannelsResponse x) = not (some_key x.success)
subscribe_empty _ = false

-- a reply that grants no key
abbrev pub is_empty : Message → Bool
is_empty (message.ChannelSubscribe x) = subscribe_empty x
is_empty _ = false

-- under a header of none of the others
abbrev pub IsApart : Header → ℕ → Type 0
IsApart h n = (int_eq (pos 21) h.protocol && int_eq (pos n) h.kind) ≡ false

abbrev pub IsAsideHeader : Header → Message → Type 0
IsAsideHeader h m = IsApart h 4 × IsApart h 6 × IsApart h 13 × (IsApart h 12 ⊎ (is_empty m ≡ true))

abbrev pub AsideKept : Option Kept → Type 0
AsideKept None = Unit {0}
AsideKept (Some k) = IsAsideHeader k.header k.message × (is_aside k.message ≡ true)

-- ---- a further part is of the kind of the last one

abbrev SameAside : Message → Message → Type 0
SameAside x y = (is_aside x ≡ true) × (is_stop x ≡ is_stop y) × (is_empty y ≡ true → is_empty x ≡ true)

pub no_key : {A : Type 0} (xs : List A) → not (some_key xs) ≡ true → xs ≡ []
no_key [] none = refl
no_key (x ∷ xs) none = absurd (false≢true none)

none_merged : (xs ys : List (List ℕ × List ℕ)) → not (some_key xs) ≡ true → not (some_key ys) ≡ true → not (some_key (merged xs ys)) ≡ true
none_merged xs ys a b = λ i. not (some_key (merged (no_key xs a i) (no_key ys b i)))

subscribe_joins : (x y : ChannelSubscribeMessage) → subscribe_aside x ≡ true → subscribe_aside y ≡ true
    → (subscribe_aside (subscribe_joined x y) ≡ true) × (subscribe_stops (subscribe_joined x y) ≡ subscribe_stops y) × (subscribe_empty y ≡ true → subscribe_empty (subscribe_joined x y) ≡ true)
subscribe_joins (subscribe.GetChannelMetadataResponse x) (subscribe.GetChannelMetadataResponse y) held aside = (refl, refl, λ e. e)
subscribe_joins (subscribe.SubscriptionsStopped x) (subscribe.SubscriptionsStopped y) held aside = (refl, refl, λ e. e)
subscribe_joins (subscribe.GetRangesResponse x) (subscribe.GetRangesResponse y) held aside = (refl, refl, λ e. e)
subscribe_joins (subscribe.SubscribeChannelsResponse x) (subscribe.SubscribeChannelsResponse y) held aside =
    let both : not (some_key (merged x.success y.success)) ≡ true = none_merged x.success y.success held aside in (both, refl, λ e. both)
subscribe_joins (subscribe.ChannelData x) (subscribe.ChannelData y) held aside = absurd (false≢true aside)
subscribe_joins (subscribe.RangeReplaced x) (subscribe.RangeReplaced y) held aside = absurd (false≢true aside)
subscribe_joins (subscribe.ChannelsTruncated x) (subscribe.ChannelsTruncated y) held aside = absurd (false≢true aside)
subscribe_joins x y held aside = (aside, refl, λ e. e)

joins_aside : (x y : Message) → is_aside x ≡ true → is_aside y ≡ true → SameAside (joined x y) y
joins_aside (message.Core x) (message.Core y) held aside = (refl, refl, λ e. e)
joins_aside (message.Dataspace x) (message.Dataspace y) held aside = (refl, refl, λ e. e)
joins_aside (message.Store x) (message.Store y) held aside = (refl, refl, λ e. e)
joins_aside (message.ChannelSubscribe x) (message.ChannelSubscribe y) held aside = subscribe_joins x y held aside
joins_aside (message.ChannelDataLoad x) (message.ChannelDataLoad y) held aside = (refl, refl, λ e. e)
joins_aside x y held aside = (aside, refl, λ e. e)

grown_aside : (o : Option Kept) (m : Message) → AsideKept o → is_aside m ≡ true → SameAside (grown o m) m
grown_aside None m kept aside = (aside, refl, λ e. e)
grown_aside (Some k) m kept aside = joins_aside k.message m kept.1 aside

grown_under : (h : Header) (m n : Message) → (is_empty m ≡ true → is_empty n ≡ true) → IsAsideHeader h m → IsAsideHeader h n
grown_under h m n empty under = (under.0, under.1, under.2, by under.3)
  where
    by : (IsApart h 12 ⊎ (is_empty m ≡ true)) → IsApart h 12 ⊎ (is_empty n ≡ true)
    by (inl apart) = inl apart
    by (inr e) = inr (empty e)

-- ---- they send no change, and grant no subscription

subscribe_untold : (x : ChannelSubscribeMessage) → subscribe_aside x ≡ true → subscribe_changes x ≡ None
subscribe_untold (subscribe.ChannelData x) aside = absurd (false≢true aside)
subscribe_untold (subscribe.RangeReplaced x) aside = absurd (false≢true aside)
subscribe_untold (subscribe.ChannelsTruncated x) aside = absurd (false≢true aside)
subscribe_untold x aside = refl

untold : (m : Message) → is_aside m ≡ true → changes_of m ≡ None
untold (message.ChannelSubscribe x) aside = subscribe_untold x aside
untold m aside = refl

no_notice : (h : Header) (m : Message) → is_aside m ≡ true → notice h m ≡ None
no_notice h m aside = by (int_eq h.correlation (pos 0))
  where
    by : (b : Bool) → (if b then changes_of m else None) ≡ None
    by true = untold m aside
    by false = refl

subscribe_ungranted : (x : ChannelSubscribeMessage) → subscribe_aside x ≡ true → grants_subscription (message.ChannelSubscribe x) ≡ false
subscribe_ungranted (subscribe.SubscribeChannelsResponse x) aside = ap (λ l. is_granted l) (no_key x.success aside)
subscribe_ungranted x aside = refl

ungranted : (m : Message) → is_aside m ≡ true → grants_subscription m ≡ false
ungranted (message.ChannelSubscribe x) aside = subscribe_ungranted x aside
ungranted m aside = refl

-- ---- what they leave

pub no_more : (before : Option (List What)) → option_map (λ ws. ws ++ []) before ≡ before
no_more None = refl
no_more (Some ws) = ap Some (append-nil ws)

pub all_filter : (P : Asked → Type 0) (f : Asked → Bool) (xs : List Asked) → AllByRecursion P xs → AllByRecursion P (filter f xs)
all_filter P f [] all = tt
all_filter P f (x ∷ xs) all = by (f x) (all_filter P f xs all.1)
  where
    by : (b : Bool) → AllByRecursion P (filter f xs) → AllByRecursion P (cond b (x ∷ filter f xs) (filter f xs))
    by true rest = (all.0, rest)
    by false rest = rest

-- the subscriptions and what was returned of them are as they were
abbrev pub Still : Heard → Taken → Type 0
Still s t = (t.state.channels ≡ s.channels) × ((c : ℤ) (before : Option (List What)) → handed c s.asks before t.result ≡ before)

-- what is asked stays of a kind, and the subscriptions are still, except for a stop
abbrev pub Minds : (P : Asked → Type 0) → Bool → Heard → Taken → Type 0
Minds P stop s t = (t.state.last ≡ s.last) × AsideKept t.state.kept × (AllByRecursion P s.asks → AllByRecursion P t.state.asks) × (stop ≡ false → Still s t)

-- unless the client ends
abbrev Goes : (P : Asked → Type 0) → Bool → Heard → Taken → Type 0
Goes P stop s t = is_ended t.state.phase ≡ false → Minds P stop s t

module _ (P : Asked → Type 0) (stop : Bool) where
  fails_goes : (e : ClientError) (s t : Heard) → Goes P stop s (fails e t)
  fails_goes e s t lives = absurd (false≢true (sym lives))

  if_goes : (s : Heard) (b : Bool) (x y : Taken) → Goes P stop s x → Goes P stop s y → Goes P stop s (if b then x else y)
  if_goes s true x y p q = p
  if_goes s false x y p q = q

  changes_go : (h : Header) (m : Message) (s : Heard) → is_aside m ≡ true → Goes P stop s (by_changes h.correlation (notice h m) s)
  changes_go h m s aside = subst (λ o. Goes P stop s (by_changes h.correlation o s)) (sym (no_notice h m aside)) (fails_goes (error.Unasked h.correlation) s s)

  -- an ask that waits for something else is done
  done_still : (c : ℤ) (id : ℤ) (asks : List Asked) (d : Due) (before : Option (List What)) → due_at id asks ≡ Some d → is_subscription c (Some d) ≡ false → handed c asks before (Ok (got.Done id ∷ [])) ≡ before
  done_still c id asks d before at other = ap (λ b. if b || false then Some [] else option_map (λ ws. ws ++ []) before) (ap (is_subscription c) at ∙ other) ∙ no_more before

  space_goes : (h : Header) (m : Message) (s : Heard) → is_aside m ≡ true → AsideKept s.kept → due_at h.correlation s.asks ≡ Some due.SpacePut → (b : Bool) → Goes P stop s (by_answer h m due.SpacePut (done h.correlation b) s)
  space_goes h m s aside kept at false = changes_go h m s aside
  space_goes h m s aside kept at true = λ lives. (refl, kept, all_filter P (λ a. not (int_eq a.id h.correlation)) s.asks, λ e. (refl, λ c before. done_still c h.correlation s.asks due.SpacePut before at refl))

  object_put_goes : (h : Header) (m : Message) (s : Heard) → is_aside m ≡ true → AsideKept s.kept → due_at h.correlation s.asks ≡ Some due.ObjectPut → (b : Bool) → Goes P stop s (by_answer h m due.ObjectPut (done h.correlation b) s)
  object_put_goes h m s aside kept at false = changes_go h m s aside
  object_put_goes h m s aside kept at true = λ lives. (refl, kept, all_filter P (λ a. not (int_eq a.id h.correlation)) s.asks, λ e. (refl, λ c before. done_still c h.correlation s.asks due.ObjectPut before at refl))

  opened_goes : (h : Header) (m : Message) (s : Heard) → is_aside m ≡ true → AsideKept s.kept → (o : Option (List ℕ)) → Goes P stop s (by_answer h m due.Session (option_map got.Opened o) s)
  opened_goes h m s aside kept None = changes_go h m s aside
  opened_goes h m s aside kept (Some x) = λ lives. (refl, kept, all_filter P (λ a. not (int_eq a.id h.correlation)) s.asks, λ e. (refl, λ c before. no_more before))

  object_goes : (h : Header) (m : Message) (s : Heard) → is_aside m ≡ true → AsideKept s.kept → (o : Option (List ℕ)) → Goes P stop s (by_answer h m due.Object (option_map (got.Object h.correlation) o) s)
  object_goes h m s aside kept None = changes_go h m s aside
  object_goes h m s aside kept (Some x) = λ lives. (refl, kept, all_filter P (λ a. not (int_eq a.id h.correlation)) s.asks, λ e. (refl, λ c before. no_more before))

  opening_goes : (h : Header) (m : Message) (s : Heard) → is_aside m ≡ true → AsideKept s.kept → (o : Option ChannelMetadataRecord) → Goes P stop s (by_answer h m due.Opening (option_map (meta_of h.correlation) o) s)
  opening_goes h m s aside kept None = changes_go h m s aside
  opening_goes h m s aside kept (Some x) = λ lives. (refl, kept, all_filter P (λ a. not (int_eq a.id h.correlation)) s.asks, λ e. (refl, λ c before. no_more before))

  metadata_goes : (h : Header) (m : Message) (s : Heard) → is_aside m ≡ true → AsideKept s.kept → (o : Option ChannelMetadataRecord) → Goes P stop s (by_answer h m due.Metadata (option_map (meta_of h.correlation) o) s)
  metadata_goes h m s aside kept None = changes_go h m s aside
  metadata_goes h m s aside kept (Some x) = λ lives. (refl, kept, all_filter P (λ a. not (int_eq a.id h.correlation)) s.asks, λ e. (refl, λ c before. no_more before))

  pong_goes : (h : Header) (m : Message) (s : Heard) → is_aside m ≡ true → AsideKept s.kept → (o : Option ℤ) → Goes P stop s (by_answer h m due.Pong (option_map got.Pong o) s)
  pong_goes h m s aside kept None = changes_go h m s aside
  pong_goes h m s aside kept (Some x) = λ lives. (refl, kept, λ all. all_filter P (λ a. not (is_loaded h.correlation a)) (without h.correlation s.asks) (all_filter P (λ a. not (int_eq a.id h.correlation)) s.asks all), λ e. (refl, λ c before. no_more before))

  replacement_goes : (h : Header) (m : Message) (s : Heard) → is_aside m ≡ true → AsideKept s.kept → due_at h.correlation s.asks ≡ Some due.Replacement → (b : Bool) → Goes P stop s (by_answer h m due.Replacement (done h.correlation b) s)
  replacement_goes h m s aside kept at false = changes_go h m s aside
  replacement_goes h m s aside kept at true = λ lives. (refl, kept, all_filter P (λ a. not (int_eq a.id h.correlation)) s.asks, λ e. (refl, λ c before. done_still c h.correlation s.asks due.Replacement before at refl))

  truncation_goes : (h : Header) (m : Message) (s : Heard) → is_aside m ≡ true → AsideKept s.kept → due_at h.correlation s.asks ≡ Some due.Truncation → (b : Bool) → Goes P stop s (by_answer h m due.Truncation (done h.correlation b) s)
  truncation_goes h m s aside kept at false = changes_go h m s aside
  truncation_goes h m s aside kept at true = λ lives. (refl, kept, all_filter P (λ a. not (int_eq a.id h.correlation)) s.asks, λ e. (refl, λ c before. done_still c h.correlation s.asks due.Truncation before at refl))

  deletion_goes : (h : Header) (m : Message) (s : Heard) → is_aside m ≡ true → AsideKept s.kept → due_at h.correlation s.asks ≡ Some due.Deletion → (b : Bool) → Goes P stop s (by_answer h m due.Deletion (done h.correlation b) s)
  deletion_goes h m s aside kept at false = changes_go h m s aside
  deletion_goes h m s aside kept at true = λ lives. (refl, kept, all_filter P (λ a. not (int_eq a.id h.correlation)) s.asks, λ e. (refl, λ c before. done_still c h.correlation s.asks due.Deletion before at refl))

  range_goes : (h : Header) (m : Message) (s : Heard) (channel : ℤ) → is_aside m ≡ true → AsideKept s.kept → (o : Option (List Point)) → Goes P stop s (by_answer h m (due.Range channel) (option_map (got.Points h.correlation) o) s)
  range_goes h m s channel aside kept None = changes_go h m s aside
  range_goes h m s channel aside kept (Some x) = λ lives. (refl, kept, all_filter P (λ a. not (int_eq a.id h.correlation)) s.asks, λ e. (refl, λ c before. no_more before))

  spaces_go : (h : Header) (m : Message) (s : Heard) → is_aside m ≡ true → AsideKept s.kept → (o : Option (List Space)) → Goes P stop s (by_answer h m due.Spaces (option_map (got.Spaces h.correlation) o) s)
  spaces_go h m s aside kept None = changes_go h m s aside
  spaces_go h m s aside kept (Some x) = λ lives. (refl, kept, all_filter P (λ a. not (int_eq a.id h.correlation)) s.asks, λ e. (refl, λ c before. no_more before))

  subscription_goes : (h : Header) (m : Message) (s : Heard) (channel : ℤ) → is_aside m ≡ true → Goes P stop s (by_answer h m (due.Subscription channel) (done h.correlation (grants_subscription m)) s)
  subscription_goes h m s channel aside = subst (λ b. Goes P stop s (by_answer h m (due.Subscription channel) (done h.correlation b) s)) (sym (ungranted m aside)) (changes_go h m s aside)

  due_goes : (h : Header) (m : Message) (s : Heard) → is_aside m ≡ true → AsideKept s.kept → (d : Option Due) → due_at h.correlation s.asks ≡ d → Goes P stop s (by_due h m d s)
  due_goes h m s aside kept None at = changes_go h m s aside
  due_goes h m s aside kept (Some due.Session) at = opened_goes h m s aside kept (session_in m)
  due_goes h m s aside kept (Some due.SpacePut) at = space_goes h m s aside kept at (grants_space m)
  due_goes h m s aside kept (Some due.ObjectPut) at = object_put_goes h m s aside kept at (grants_object m)
  due_goes h m s aside kept (Some due.Object) at = object_goes h m s aside kept (object_in m)
  due_goes h m s aside kept (Some due.Opening) at = opening_goes h m s aside kept (opened_in m)
  due_goes h m s aside kept (Some due.Metadata) at = metadata_goes h m s aside kept (channel_in m)
  due_goes h m s aside kept (Some due.Load) at = changes_go h m s aside
  due_goes h m s aside kept (Some (due.Subscription channel)) at = subscription_goes h m s channel aside
  due_goes h m s aside kept (Some due.Replacement) at = replacement_goes h m s aside kept at (says_replaced m)
  due_goes h m s aside kept (Some due.Truncation) at = truncation_goes h m s aside kept at (says_cut m)
  due_goes h m s aside kept (Some (due.Range channel)) at = range_goes h m s channel aside kept (points_in channel m)
  due_goes h m s aside kept (Some due.Spaces) at = spaces_go h m s aside kept (spaces_in m)
  due_goes h m s aside kept (Some due.Deletion) at = deletion_goes h m s aside kept at (says_deleted m)
  due_goes h m s aside kept (Some due.Pong) at = pong_goes h m s aside kept (moment_in m)

  told_goes : (h : Header) (m : Message) (s : Heard) → is_aside m ≡ true → AsideKept s.kept → Goes P stop s (told h m s)
  told_goes h m s aside kept = due_goes h m s aside kept (due_at h.correlation s.asks) refl

  refusal_goes : (id : ℤ) (x : ProtocolException) (s : Heard) → AsideKept s.kept → (d : Option Due) → Goes P stop s (refusal id x d s)
  refusal_goes id x s kept None = fails_goes (error.Unasked id) s s
  refusal_goes id x s kept (Some d) = λ lives. (refl, kept, all_filter P (λ a. not (int_eq a.id id)) s.asks, λ e. (refl, λ c before. refl))

  core_goes : (h : Header) (x : CoreMessage) (s : Heard) → AsideKept s.kept → Goes P stop s (core_whole h x s)
  core_goes h (core.ProtocolException x) s kept = refusal_goes h.correlation x s kept (due_at h.correlation s.asks)
  core_goes h (core.RequestSession x) s kept = told_goes h (message.Core (core.RequestSession x)) s refl kept
  core_goes h (core.OpenSession x) s kept = told_goes h (message.Core (core.OpenSession x)) s refl kept
  core_goes h (core.CloseSession x) s kept = told_goes h (message.Core (core.CloseSession x)) s refl kept
  core_goes h (core.Ping x) s kept = told_goes h (message.Core (core.Ping x)) s refl kept
  core_goes h (core.Pong x) s kept = told_goes h (message.Core (core.Pong x)) s refl kept
  core_goes h (core.Acknowledge x) s kept = told_goes h (message.Core (core.Acknowledge x)) s refl kept

-- ---- a whole message

module _ (P : Asked → Type 0) where
  subscribe_goes : (h : Header) (x : ChannelSubscribeMessage) (s : Heard) → subscribe_aside x ≡ true → AsideKept s.kept → Goes P (subscribe_stops x) s (subscribe_whole h x s)
  subscribe_goes h (subscribe.SubscriptionsStopped x) s aside kept = λ lives. (refl, kept, λ all. all, λ e. absurd (false≢true (sym e)))
  subscribe_goes h (subscribe.ChannelData x) s aside kept = absurd (false≢true aside)
  subscribe_goes h (subscribe.RangeReplaced x) s aside kept = absurd (false≢true aside)
  subscribe_goes h (subscribe.ChannelsTruncated x) s aside kept = absurd (false≢true aside)
  subscribe_goes h (subscribe.SubscribeChannelsResponse x) s aside kept = told_goes P false h (message.ChannelSubscribe (subscribe.SubscribeChannelsResponse x)) s aside kept
  subscribe_goes h (subscribe.GetChannelMetadata x) s aside kept = told_goes P false h (message.ChannelSubscribe (subscribe.GetChannelMetadata x)) s refl kept
  subscribe_goes h (subscribe.GetChannelMetadataResponse x) s aside kept = told_goes P false h (message.ChannelSubscribe (subscribe.GetChannelMetadataResponse x)) s refl kept
  subscribe_goes h (subscribe.SubscribeChannels x) s aside kept = told_goes P false h (message.ChannelSubscribe (subscribe.SubscribeChannels x)) s refl kept
  subscribe_goes h (subscribe.UnsubscribeChannels x) s aside kept = told_goes P false h (message.ChannelSubscribe (subscribe.UnsubscribeChannels x)) s refl kept
  subscribe_goes h (subscribe.GetRanges x) s aside kept = told_goes P false h (message.ChannelSubscribe (subscribe.GetRanges x)) s refl kept
  subscribe_goes h (subscribe.GetRangesResponse x) s aside kept = told_goes P false h (message.ChannelSubscribe (subscribe.GetRangesResponse x)) s refl kept

  whole_goes : (h : Header) (m : Message) (s : Heard) → is_aside m ≡ true → AsideKept s.kept → Goes P (is_stop m) s (on_whole h m s)
  whole_goes h (message.Core x) s aside kept = core_goes P false h x s kept
  whole_goes h (message.ChannelSubscribe x) s aside kept = subscribe_goes h x s aside kept
  whole_goes h (message.Transaction x) s aside kept = told_goes P false h (message.Transaction x) s refl kept
  whole_goes h (message.Dataspace x) s aside kept = told_goes P false h (message.Dataspace x) s refl kept
  whole_goes h (message.Store x) s aside kept = told_goes P false h (message.Store x) s refl kept
  whole_goes h (message.DataArray x) s aside kept = told_goes P false h (message.DataArray x) s refl kept
  whole_goes h (message.ChannelDataLoad x) s aside kept = told_goes P false h (message.ChannelDataLoad x) s refl kept

  -- ---- a part

  flag_goes : (b : Bool) (h : Header) (m : Message) (s : Heard) → IsAsideHeader h m → is_aside m ≡ true → Goes P (is_stop m) s (by_flag b h m s)
  flag_goes true h m s under aside = whole_goes h m (record s { kept = None }) aside tt
  flag_goes false h m s under aside = λ lives. (refl, (under, aside), λ all. all, λ e. (refl, λ c before. no_more before))

  part_goes : (h : Header) (m : Message) (s : Heard) → IsAsideHeader h m → is_aside m ≡ true → AsideKept s.kept → Goes P (is_stop m) s (by_kind false h m s)
  part_goes h m s under aside kept =
      let g : SameAside (grown s.kept m) m = grown_aside s.kept m kept aside in
      subst (λ b. Goes P b s (by_flag (has_flag h.flags final_part) h (grown s.kept m) s)) g.1
      (flag_goes (has_flag h.flags final_part) h (grown s.kept m) s (grown_under h m (grown s.kept m) g.2 under) g.0)

-- ---- objects and chunks

abbrev AsideJoined : Result (Joined × Option Awaited) JoinError → Type 0
AsideJoined (Ok (j.Whole m, w)) = (is_aside m ≡ true) × (is_stop m ≡ false)
AsideJoined _ = Unit {0}

came_by : (a b c : Bool) (r : Result (Joined × Option Awaited) JoinError) → AsideJoined r → AsideJoined (if a then Err join.WrongBlob else if b then Err join.Interleaved else if c then Err join.TooLong else r)
came_by true b c r aside = tt
came_by false true c r aside = tt
came_by false false true r aside = tt
came_by false false false r aside = aside

carried_aside : (c : Carrier) (xs : Objects) → (is_aside (carried c xs) ≡ true) × (is_stop (carried c xs) ≡ false)
carried_aside (carrier.Put prune) xs = (refl, refl)
carried_aside carrier.Reply xs = (refl, refl)

grows_aside : (w : Awaited) → AsideJoined (Ok (grows w))
grows_aside w = by (list_any awaits_any w.objects)
  where
    by : (b : Bool) → AsideJoined (Ok (if b then (j.More, Some w) else (j.Whole (carried w.carrier w.objects), None)))
    by true = tt
    by false = carried_aside w.carrier w.objects

came_aside : (w : Option Awaited) (correlation : ℤ) (c : Carrier) (xs : Objects) → AsideJoined (came w correlation c xs)
came_aside w correlation c xs =
    let whole : Awaited = record { correlation = correlation; carrier = c; objects = xs; begun = None } in
    came_by (list_any is_double xs || shares_blob xs) (is_some w) (nat_lt data_limit (data_size xs)) (Ok (grows whole)) (grows_aside whole)

unless_aside : (o : Option JoinError) (w : Awaited) → AsideJoined (unless_refused o w)
unless_aside None w = grows_aside w
unless_aside (Some cause) w = tt

chunk_aside : (w : Option Awaited) (correlation : ℤ) (c : Chunk) → AsideJoined (chunk_came w correlation c)
chunk_aside None correlation c = tt
chunk_aside (Some w) correlation c = unless_aside (chunk_refusal w correlation c) (with_piece w c)

store_aside : (w : Option Awaited) (h : Header) (x : StoreMessage) → AsideJoined (store_came w h x)
store_aside w h (store.PutDataObjects x) = came_aside w h.id (carrier.Put x.prune_contained_objects) x.data_objects
store_aside w h (store.GetDataObjectsResponse x) = came_aside w h.correlation carrier.Reply x.data_objects
store_aside w h (store.Chunk c) = chunk_aside w h.correlation c
store_aside w h x = (refl, refl)

module _ (P : Asked → Type 0) where
  joined_goes : (h : Header) (s : Heard) → AsideKept s.kept → (r : Result (Joined × Option Awaited) JoinError) → AsideJoined r → Goes P false s (on_joined h r s)
  joined_goes h s kept (Err e) aside = fails_goes P false (error.Join e) s (record s { joiner = None })
  joined_goes h s kept (Ok (j.More, w)) aside = λ lives. (refl, kept, λ all. all, λ e. (refl, λ c before. no_more before))
  joined_goes h s kept (Ok (j.Whole m, w)) aside = subst (λ b. Goes P b s (on_whole h m (record s { joiner = w }))) aside.1 (whole_goes P h m (record s { joiner = w }) aside.0 kept)

  store_goes : (h : Header) (x : StoreMessage) (s : Heard) → IsAsideHeader h (message.Store x) → AsideKept s.kept → (b : Bool) → Goes P false s (by_kind b h (message.Store x) s)
  store_goes h x s under kept true = joined_goes h s kept (joins s.joiner h (message.Store x)) (store_aside s.joiner h x)
  store_goes h x s under kept false = part_goes P h (message.Store x) s under refl kept

  kind_goes : (h : Header) (m : Message) (s : Heard) → IsAsideHeader h m → is_aside m ≡ true → AsideKept s.kept → Goes P (is_stop m) s (by_kind (has_objects m) h m s)
  kind_goes h (message.Store x) s under aside kept = store_goes h x s under kept (store_joins x)
  kind_goes h (message.Core x) s under aside kept = part_goes P h (message.Core x) s under refl kept
  kind_goes h (message.Transaction x) s under aside kept = part_goes P h (message.Transaction x) s under refl kept
  kind_goes h (message.Dataspace x) s under aside kept = part_goes P h (message.Dataspace x) s under refl kept
  kind_goes h (message.DataArray x) s under aside kept = part_goes P h (message.DataArray x) s under refl kept
  kind_goes h (message.ChannelSubscribe x) s under aside kept = part_goes P h (message.ChannelSubscribe x) s under aside kept
  kind_goes h (message.ChannelDataLoad x) s under aside kept = part_goes P h (message.ChannelDataLoad x) s under refl kept

  -- ---- at first sight

  phase_goes : (h : Header) (m : Message) (s : Heard) → IsAsideHeader h m → is_aside m ≡ true → AsideKept s.kept → (b : Bool) → Goes P (is_stop m) s (in_phase b h m s)
  phase_goes h m s under aside kept true = if_goes P (is_stop m) s (is_broken s.kept h m) _ _ (fails_goes P (is_stop m) (error.Join join.Interleaved) s s) (kind_goes h m s under aside kept)
  phase_goes h m s under aside kept false = fails_goes P (is_stop m) error.State s s

  message_goes : (h : Header) (m : Message) (s : Heard) → IsAsideHeader h m → is_aside m ≡ true → AsideKept s.kept → Goes P (is_stop m) s (on_message h m s)
  message_goes h m s under aside kept =
      if_goes P (is_stop m) s (is_silent m) _ _ (λ lives. (refl, kept, λ all. all, λ e. (refl, λ c before. no_more before)))
      (if_goes P (is_stop m) s (is_closing m) _ _ (λ lives. absurd (false≢true (sym lives))) (phase_goes h m s under aside kept (may_come s.phase m)))

  pub aside_taken : (h : Header) (m : Message) (s : Heard) → IsAsideHeader h m → is_aside m ≡ true → AsideKept s.kept → is_ended (on_read h m s).state.phase ≡ false
      → (is_fresh s.last h.id ≡ true) × Minds P (is_stop m) (record s { last = h.id }) (on_read h m s)
  aside_taken h m s under aside kept = by (is_fresh s.last h.id) refl
    where
      by : (b : Bool) → is_fresh s.last h.id ≡ b → is_ended (if b then on_message h m (record s { last = h.id }) else fails (error.Id h.id) s).state.phase ≡ false
          → (is_fresh s.last h.id ≡ true) × Minds P (is_stop m) (record s { last = h.id }) (if b then on_message h m (record s { last = h.id }) else fails (error.Id h.id) s)
      by true fresh lives = (fresh, message_goes h m (record s { last = h.id }) under aside kept lives)
      by false stale lives = absurd (false≢true (sym lives))

-- a message that gives nothing is ignored
pub silent_taken : (h : Header) (m : Message) (s : Heard) → is_silent m ≡ true → is_ended (on_read h m s).state.phase ≡ false → on_read h m s ≡ gives [] (record s { last = h.id })
silent_taken h m s silent = by (is_fresh s.last h.id)
  where
    t : Heard
    t = record s { last = h.id }

    by : (b : Bool) → is_ended (if b then on_message h m t else fails (error.Id h.id) s).state.phase ≡ false → (if b then on_message h m t else fails (error.Id h.id) s) ≡ gives [] t
    by true lives = ap (λ b. if b then gives [] t else if is_closing m then gives [] (record t { phase = phase.Ended }) else in_phase (may_come t.phase m) h m t) silent
    by false lives = absurd (false≢true (sym lives))
