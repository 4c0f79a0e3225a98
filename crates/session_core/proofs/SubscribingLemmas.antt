-- The messages of subscriptions, and polls; for the crates above too.
use Rattle.std.specs.Prelude.{ℕ, ℤ, pos, Bool, true, false, cond, List, [], ◌∷◌, ◌++◌, ◌≡◌, ◌+◌, ◌≤◌, ◌<◌, ◌^◌, min, nat_lt, not, Option, Some, None, map, take, drop, length, if◌then◌else◌, refl}
use Rattle.std.specs.List.{AllByRecursion}
use Rattle.std.specs.Ordering.{int_eq}
use Rattle.std.proofs.Common.{ap, sym, ◌∙◌, subst, arith, append-nil, length-take}
use Rattle.std.proofs.lemmas.Bool.Decides.{nat_tests}
use lib.Signed.{mag}
use Rattle.server_config.specs.declared.config.Config.{Config}
use Rattle.channel_rows.specs.Notices.{Told, ids_of, news_told, notice, notice_of, reason_of, stop_response}
use Rattle.channel_rows.specs.Subscriptions.{SubscribeOutcome, asks_of, begin_one, beginning, lag_cause, metadata_call, metadata_outcome, metadata_response, news_call, news_from, none_named, ranges_refusal, replied, started_reply, stop_one, stop_outcome, subscribe_call, subscribe_one, begin_outcome, subscribe_outcome, subscribe_response, unless_leaving}
use Rattle.channel_rows.specs.declared.subscribing.Beginning.{Beginning}
use Rattle.channel_rows.specs.declared.subscriptions.SubscribePending.{SubscribePending}
use Rattle.channel_rows.specs.declared.subscriptions.SubscribePending.TheVariants as keeps_subscription
use Rattle.channel_store.specs.declared.change.ChannelChange.{ChannelChange}
use Rattle.channel_store.specs.declared.change.What.{What}
use Rattle.channel_store.specs.declared.change.What.TheVariants.{Append, Replace, Truncate}
use Rattle.channel_store.specs.declared.subscription.Sub.{Sub}
use Rattle.etp_frame.specs.Splitting.{parts}
use Rattle.etp_frame.specs.declared.message.Message.TheVariants as message
use Rattle.etp_values.proofs.EachLemmas.{all-append, all-weaker}
use Rattle.etp_values.specs.declared.code.ErrorCode.{ErrorCode}
use Rattle.etp_values.specs.declared.code.ErrorCode.TheVariants.{InvalidMessageType}
use Rattle.keyed_requests.specs.Keyed.{called, checked, checked_state, finished, finished_state, granted, kept, refused_keys, keyed_replies, request_reply, sent as sent_keys, unasked}
use Rattle.keyed_requests.specs.Keys.{keys_refusal}
use Rattle.keyed_requests.specs.Plain.{nothing}
use Rattle.keyed_requests.specs.Sending.{refusal_alone, unless_refused}
use Rattle.keyed_requests.specs.Uris.{object_uri}
use Rattle.keyed_requests.specs.declared.keys.Decision.{Decision}
use Rattle.keyed_requests.specs.declared.sending.Outcome.TheVariants.{Replies, Calls}
use Rattle.keyed_requests.specs.declared.sending.Sending.{Sending}
use Rattle.keyed_requests.specs.declared.sending.Sending.TheVariants.{Notice}
use Rattle.msg_channel.specs.declared.channel_subscribe_messages.ChannelSubscribeInfo.{ChannelSubscribeInfo}
use Rattle.msg_channel.specs.declared.channel_subscribe_messages.ChannelSubscribeMessage.{ChannelSubscribeMessage}
use Rattle.msg_channel.specs.declared.channel_subscribe_messages.ChannelSubscribeMessage.TheVariants as subscribe
use Rattle.store_machine.specs.Answers.{answered, starts_after}
use Rattle.store_machine.specs.Channels.{channels_of}
use Rattle.store_machine.specs.Laws.{NewsAreTheDue, NewsOfEach, NewsStayWithin}
use Rattle.store_machine.specs.News.{dues, joined, lag, news_after, news_by, taken}
use Rattle.store_machine.specs.Reads.{whole_room}
use Rattle.store_machine.specs.Starts.{started}
use Rattle.store_machine.specs.declared.call.Answer.{Answer}
use Rattle.store_machine.specs.declared.call.Reply.{Reply as StoreReply}
use Rattle.store_machine.specs.declared.call.Reply.TheVariants as answer
use Rattle.store_machine.specs.declared.call.StartAsk.{StartAsk}
use Rattle.store_machine.specs.declared.call.StoreCall.{StoreCall}
use Rattle.store_machine.specs.declared.call.StoreCall.TheVariants as call
use Rattle.store_machine.specs.declared.journal.Entry.{Entry}
use Rattle.subscribe_core.specs.Calls.{AreApart}
use Rattle.subscribe_core.specs.Streams.{of_channel}
use Rattle.subscribe_core.specs.Subscriptions.{Subbed, cursor_with, others}
use Rattle.subscribe_core.specs.Views.{sub_of}
use Rattle.subscribe_core.specs.declared.stop.StopCause.{StopCause}
use Rattle.subscribe_core.specs.declared.stop.StopCause.TheVariants.{Unsubscribed, Lagged}
use Rattle.session_core.specs.declared.state.Addressee.TheVariants as to
use Rattle.session_core.specs.declared.state.Outgoing.{Outgoing}
use Rattle.session_core.specs.declared.state.Part.{Part}
use Rattle.session_core.specs.declared.state.Pending.TheVariants as pending
use Rattle.session_core.specs.declared.state.Request.{Request}
use Rattle.session_core.specs.declared.state.Saying.{Saying}
use Rattle.session_core.specs.State.{State}
use Rattle.session_core.specs.Machine.{Taken, asks, given, on_outcome, on_poll, on_subscriptions, on_subscriptions_answered, unread}
use Rattle.session_core.specs.Replies.{saying_of, sayings_of}
use Rattle.session_core.specs.Sending.{blobs_after, cut_all, ended}
use Rattle.session_core.specs.Streams.{Heard, HasIds, hear_stops}
use Rattle.session_core.proofs.HearingLemmas.{IsQuiet, hear_parts, kinds_one, notice_stops, notice_tells, parts_quiet, stops, tells}
use Rattle.session_core.proofs.MovingLemmas.{After, AreQuiet, Flow, Flowing, Hushed, grown_after, hushed_said, keeps_on, stopped_after}
use Rattle.session_core.proofs.NewsingLemmas.{come, news_heard, news_keep, news_of, notes_said, told_on}
use Rattle.subscribe_core.proofs.SubLemmas.{apart-others}
use Rattle.session_core.proofs.StandingLemmas.{IsChannel}
use Rattle.session_core.proofs.StartingLemmas.{Begins, IsKnown, IsNamedIn, Keeps, all_begin, are_starts, owes, told_as}
use Rattle.session_core.proofs.StoppingLemmas.{Ends, all_stopped, kept_after, stop_heard, stop_reply_heard, unsubscribed}
use Rattle.session_core.proofs.TellingLemmas.{note, notes_heard}
use Rattle.session_core.proofs.WalkingLemmas.{LeadsTo, quiet_call, quiet_leads}

-- ---- quiet replies

abbrev QuietMessage : ChannelSubscribeMessage → Type 0
QuietMessage m = IsQuiet (notice_tells m) (notice_stops m)

abbrev AreQuietSendings : List (Sending ChannelSubscribeMessage) → Type 0
AreQuietSendings xs = AreQuiet (sayings_of message.ChannelSubscribe xs)

quiet_replies : {R : Type 0} (response : List (List ℕ × R) → ChannelSubscribeMessage) → ((g : List (List ℕ × R)) → QuietMessage (response g)) → (gs : List (List ℕ × R)) (rs : List (List ℕ × ErrorCode))
    → AreQuietSendings (keyed_replies response gs rs)
quiet_replies response quiet [] [] = (quiet [], tt)
quiet_replies response quiet [] (r ∷ rs) = ((refl, refl), tt)
quiet_replies response quiet (g ∷ gs) [] = (quiet (g ∷ gs), tt)
quiet_replies response quiet (g ∷ gs) (r ∷ rs) = (quiet (g ∷ gs), ((refl, refl), tt))

-- requests whose answer says nothing about subscriptions
abbrev IsAside : SubscribePending → Type 0
IsAside (keeps_subscription.Metadata items) = Unit {0}
IsAside (keeps_subscription.Subscribe items) = ⊥
IsAside keeps_subscription.Ranges = Unit {0}
IsAside keeps_subscription.News = ⊥

record IsAsideReply (v : Subbed) (t : Told) : Type 0 where
  subs : t.subs ≡ v
  quiet : AreQuietSendings t.sendings

aside_replied : (defs : _) (limit mark : ℕ) (v : Subbed) (kept : SubscribePending) → IsAside kept → (r : StoreReply) → IsAsideReply v (replied defs limit mark v kept r)
aside_replied defs limit mark v (keeps_subscription.Subscribe items) is r = absurd is
aside_replied defs limit mark v keeps_subscription.News is r = absurd is
aside_replied defs limit mark v (keeps_subscription.Metadata items) is (answer.Metas metas) = record { subs = refl; quiet = quiet_replies metadata_response (λ g. (refl, refl)) _ _ }
aside_replied defs limit mark v (keeps_subscription.Metadata items) is (answer.Points points) = record { subs = refl; quiet = tt }
aside_replied defs limit mark v (keeps_subscription.Metadata items) is (answer.Started started) = record { subs = refl; quiet = tt }
aside_replied defs limit mark v (keeps_subscription.Metadata items) is (answer.News upto lag changes) = record { subs = refl; quiet = tt }
aside_replied defs limit mark v (keeps_subscription.Metadata items) is (answer.Refused code) = record { subs = refl; quiet = ((refl, refl), tt) }
aside_replied defs limit mark v (keeps_subscription.Metadata items) is _ = record { subs = refl; quiet = tt }
aside_replied defs limit mark v keeps_subscription.Ranges is (answer.Metas metas) = record { subs = refl; quiet = tt }
aside_replied defs limit mark v keeps_subscription.Ranges is (answer.Points points) = record { subs = refl; quiet = ((refl, refl), tt) }
aside_replied defs limit mark v keeps_subscription.Ranges is (answer.Started started) = record { subs = refl; quiet = tt }
aside_replied defs limit mark v keeps_subscription.Ranges is (answer.News upto lag changes) = record { subs = refl; quiet = tt }
aside_replied defs limit mark v keeps_subscription.Ranges is (answer.Refused code) = record { subs = refl; quiet = ((refl, refl), tt) }
aside_replied defs limit mark v keeps_subscription.Ranges is _ = record { subs = refl; quiet = tt }

-- ---- quiet sayings before others

quiet_before : (limit number : ℕ) (c : ℤ) (xs ys : List Saying) (blobs : ℕ) (k : Heard) (P : Heard → Type 0) → AreQuiet xs
    → ((blobs : ℕ) → P (hear_parts c k (cut_all limit number blobs ys))) → P (hear_parts c k (cut_all limit number blobs (xs ++ ys)))
quiet_before limit number c [] ys blobs k P quiet rest = rest blobs
quiet_before limit number c (x ∷ xs) ys blobs k P quiet rest =
    let later : List Part = cut_all limit number (blobs_after limit blobs x.message) (xs ++ ys) in
    let first : List Part = ended x.to (parts limit number blobs x.message) in
    subst P (sym (parts_quiet c first later k (kinds_one IsQuiet limit number blobs x quiet.0)))
    (quiet_before limit number c xs ys (blobs_after limit blobs x.message) k P quiet.1 rest)

-- ---- what isn't of a kind

quiet_stops : (xs : List Saying) → AreQuiet xs → AllByRecursion (λ (x : Saying). stops x.message ≡ false) xs
quiet_stops xs q = all-weaker (λ (x : Saying). IsQuiet (tells x.message) (stops x.message)) (λ (x : Saying). stops x.message ≡ false) (λ x f. f.1) xs q

notice_no_stop : (at channel : ℤ) (w : What) → notice_stops (notice_of at channel w) ≡ false
notice_no_stop at channel (Append points) = refl
notice_no_stop at channel (Replace from end points) = refl
notice_no_stop at channel (Truncate end) = refl

notes_no_stop : (xs : List ChannelChange) → AllByRecursion (λ (x : Saying). stops x.message ≡ false) (map note xs)
notes_no_stop [] = tt
notes_no_stop (x ∷ xs) = (notice_no_stop x.at x.channel x.what, notes_no_stop xs)

stop_replies_tell_nothing : (cause : StopCause) (gs : List (List ℕ × ℤ)) (rs : List (List ℕ × ErrorCode)) → AllByRecursion (λ (x : Saying). tells x.message ≡ false) (sayings_of message.ChannelSubscribe (keyed_replies (stop_response cause) gs rs))
stop_replies_tell_nothing cause [] [] = (refl, tt)
stop_replies_tell_nothing cause [] (r ∷ rs) = (refl, tt)
stop_replies_tell_nothing cause (g ∷ gs) [] = (refl, tt)
stop_replies_tell_nothing cause (g ∷ gs) (r ∷ rs) = (refl, (refl, tt))

-- ---- lists

all_others : (P : Sub → Type 0) (d : ℤ) (xs : List Sub) → AllByRecursion P xs → AllByRecursion P (others d xs)
all_others P d [] all = tt
all_others P d (y ∷ ys) all = by (int_eq y.channel d) (all_others P d ys all.1)
  where
    by : (b : Bool) → AllByRecursion P (others d ys) → AllByRecursion P (cond (not b) (y ∷ others d ys) (others d ys))
    by true rest = rest
    by false rest = (all.0, rest)

pub sayings_append : (xs ys : List (Sending ChannelSubscribeMessage)) → sayings_of message.ChannelSubscribe (xs ++ ys) ≡ sayings_of message.ChannelSubscribe xs ++ sayings_of message.ChannelSubscribe ys
sayings_append [] ys = refl
sayings_append (x ∷ xs) ys = ap (λ l. saying_of message.ChannelSubscribe x ∷ l) (sayings_append xs ys)

told_notes : (xs : List ChannelChange) → sayings_of message.ChannelSubscribe (map Notice (map told_as xs)) ≡ map note xs
told_notes [] = refl
told_notes (x ∷ xs) = ap (λ l. note x ∷ l) (told_notes xs)

-- ---- what the store answers

pub started_answer : (config : Config) (h : List Entry) (items : List (List ℕ × StartAsk)) → answered config h (call.Subscribe items) ≡ record { mark = length h; reply = answer.Started (started (channels_of config h) whole_room items) }
unfolding answered starts_after
started_answer config h items = refl

news_answer : (config : Config) (h : List Entry) (cursor : ℕ) (subs : List Sub)
    → answered config h (call.News cursor subs)
    ≡ record { mark = length h; reply = news_by config.lag (min cursor (length h)) (length h) (dues config subs (min cursor (length h)) (drop (min cursor (length h)) h)) }
unfolding answered news_after
news_answer config h cursor subs = refl

-- ---- one event of a session in this state

module _ (config : Config) (h : List Entry) (last : ℕ) (sent : List Outgoing) (s : State) (flowing : Flowing config h last sent s)
    (Causes : StopCause → Type 0) (CausesAt : ℕ → StopCause → Type 0) where
  abbrev GoesTo : Taken → Type 0
  GoesTo t = LeadsTo config h last sent s flowing Causes CausesAt t

  -- ---- requests aside

  replies_lead : (r : Request) (sendings : List (Sending ChannelSubscribeMessage)) (m : State) → AreQuietSendings sendings → Hushed s m → GoesTo (on_outcome message.ChannelSubscribe pending.Subscriptions r (Replies sendings) m)
  replies_lead r sendings m quiet q = quiet_leads config h last sent s flowing Causes CausesAt _ (hushed_said r (sayings_of message.ChannelSubscribe sendings) s m quiet q)

  aside_leads : (r : Request) (c : StoreCall) (kept : SubscribePending) (m : State) → IsAside kept → Hushed s m → GoesTo (on_outcome message.ChannelSubscribe pending.Subscriptions r (Calls c kept) m)
  aside_leads r c kept m is q =
      quiet_call config h last sent s flowing Causes CausesAt _ c (record { config = q.config; subs = q.subs; unheard = q.unheard })
      (λ a.
      let t = aside_replied m.config.channels m.config.lag a.mark m.subs kept is a.reply in
      hushed_said r (sayings_of message.ChannelSubscribe (replied m.config.channels m.config.lag a.mark m.subs kept a.reply).sendings) s
      (record m { pending = None; subs = (replied m.config.channels m.config.lag a.mark m.subs kept a.reply).subs }) t.quiet
      (record { config = q.config; subs = t.subs ∙ q.subs; unheard = q.unheard }))

  metadata_leads : (r : Request) (items : List (List ℕ × Decision (Unit {0}))) (uris : _) (m : State) → Hushed s m
      → GoesTo (on_outcome message.ChannelSubscribe pending.Subscriptions r (metadata_call (called metadata_response items uris)) m)
  metadata_leads r items [] m q = replies_lead r (unasked metadata_response items) m (quiet_replies metadata_response (λ g. (refl, refl)) [] (refused_keys items)) q
  metadata_leads r items (x ∷ xs) m q = aside_leads r (call.Meta (x ∷ xs)) (keeps_subscription.Metadata items) m tt q

  unless_leads : (r : Request) (why : Option ErrorCode) (o : SubscribeOutcome) (m : State) → Hushed s m → GoesTo (on_outcome message.ChannelSubscribe pending.Subscriptions r o m) → GoesTo (on_outcome message.ChannelSubscribe pending.Subscriptions r (unless_refused why o) m)
  unless_leads r (Some code) o m q leads = replies_lead r (refusal_alone code) m ((refl, refl), tt) q
  unless_leads r None o m q leads = leads

  -- ---- UnsubscribeChannels

  stopping_leads : (r : Request) (v : Subbed) (ids : List (List ℕ × ℤ)) (m : State) → Causes Unsubscribed → v ≡ s.subs → Hushed s m
      → GoesTo (on_outcome message.ChannelSubscribe pending.Subscriptions r (Replies (request_reply (stop_response Unsubscribed) (checked stop_one v ids))) (record m { subs = checked_state stop_one v ids }))
  stopping_leads r v ids m cause is q =
      let w : Subbed = checked_state stop_one v ids in
      let xs : List Saying = sayings_of message.ChannelSubscribe (request_reply (stop_response Unsubscribed) (checked stop_one v ids)) in
      let keeps : Keeps config last v = subst (Keeps config last) (sym is) flowing.keeps in
      let l = (unsubscribed (reason_of Unsubscribed) (pos 0) v ids (record { stops = []; told = []; part = [] })).0 in
      stopped_after config h last last sent s m Causes flowing q r xs w Unsubscribed cause (omega arith)
      (record {
        pending = l.pending ∙ keeps.pending;
        within = let e = l.cursor in let f = keeps.within in omega (arith, e, f);
        apart = kept_after AreApart apart-others v ids keeps.apart;
        known = kept_after (AllByRecursion (IsKnown config last)) (all_others (IsKnown config last)) v ids keeps.known;
      })
      (l.cursor ∙ ap (λ (x : Subbed). x.cursor) is)
      (stop_replies_tell_nothing Unsubscribed (granted (checked stop_one v ids)) (refused_keys (checked stop_one v ids)))
      (λ c k.
      subst (λ (j : Heard). Ends (reason_of Unsubscribed) k (sub_of c s.subs.subs) j (sub_of c w.subs)) (sym (stop_reply_heard m.limit m.number m.blobs c Unsubscribed (granted (checked stop_one v ids)) (refused_keys (checked stop_one v ids)) k))
      (subst (λ (x : Subbed). Ends (reason_of Unsubscribed) k (sub_of c x.subs) (hear_stops c (reason_of Unsubscribed) (granted (checked stop_one v ids)) k) (sub_of c w.subs)) is (unsubscribed (reason_of Unsubscribed) c v ids k).1))

  -- ---- SubscribeChannels

  abbrev asked_of : Subbed → List (List ℕ × ChannelSubscribeInfo) → List (List ℕ × Decision StartAsk)
  asked_of v items = checked (subscribe_one v.subs) none_named items

  abbrev started_told : ℕ → Subbed → List (List ℕ × ChannelSubscribeInfo) → Told
  started_told p v items =
      started_reply p v (keeps_subscription.Subscribe (kept (λ a. a) (asked_of v items))) (started (channels_of config (take p h)) whole_room (sent_keys (λ a. a) (asked_of v items)))

  begins_after : (r : Request) (v : Subbed) (items : List (List ℕ × ChannelSubscribeInfo)) (m : State) (p : ℕ) → v ≡ s.subs → Hushed s m → last ≤ p → p ≤ length h
      → After config h p sent s (on_subscriptions_answered r (started_told p v items) m) (CausesAt p)
  begins_after r v items m p is q le top =
      let keeps : Keeps config p v = subst (Keeps config p) (sym is) (keeps_on config last p s.subs le flowing.keeps) in
      let t : ℤ → List What = λ c. owes h v c in
      let begins : Begins config h p t v (beginning v) = record { keeps = keeps; new = []; notes = refl; solid = tt; flows = λ c. append-nil (owes h v c); stays = λ c x e. e } in
      let named : IsNamedIn config h p t v none_named (beginning v) = record { fresh = λ c e g. g; few = omega arith } in
      grown r v items m p is q le top t (λ c. refl) (all_begin config h p t v items none_named (beginning v) (started (channels_of config (take p h)) whole_room (sent_keys (λ a. a) (asked_of v items))) (are_starts config h p t v whole_room (sent_keys (λ a. a) (asked_of v items))) begins named)
    where
      grown : (r : Request) (v : Subbed) (items : List (List ℕ × ChannelSubscribeInfo)) (m : State) (p : ℕ) → v ≡ s.subs → Hushed s m → last ≤ p → p ≤ length h → (t : ℤ → List What) → ((c : ℤ) → t c ≡ owes h v c)
          → Begins config h p t v (finished_state (begin_one p) 1 (beginning v) (kept (λ a. a) (asked_of v items)) (started (channels_of config (take p h)) whole_room (sent_keys (λ a. a) (asked_of v items))))
          → After config h p sent s (on_subscriptions_answered r (started_told p v items) m) (CausesAt p)
      grown r v items m p is q le top t same begins =
          let sts = started (channels_of config (take p h)) whole_room (sent_keys (λ a. a) (asked_of v items)) in
          let b : Beginning = finished_state (begin_one p) 1 (beginning v) (kept (λ a. a) (asked_of v items)) sts in
          let reply : List (Sending ChannelSubscribeMessage) = request_reply subscribe_response (finished (begin_one p) 1 (beginning v) (kept (λ a. a) (asked_of v items)) sts) in
          let quiet : AreQuietSendings reply = quiet_replies subscribe_response (λ g. (refl, refl)) _ _ in
          let xs : List Saying = sayings_of message.ChannelSubscribe (reply ++ map Notice b.notices) in
          let split : xs ≡ sayings_of message.ChannelSubscribe reply ++ map note begins.new =
          sayings_append reply (map Notice b.notices) ∙ ap (λ l. sayings_of message.ChannelSubscribe reply ++ l) (ap (λ l. sayings_of message.ChannelSubscribe (map Notice l)) begins.notes ∙ told_notes begins.new) in
          grown_after config h last p sent s m (CausesAt p) flowing q r xs b.subs top begins.keeps
          (subst (AllByRecursion (λ (x : Saying). stops x.message ≡ false)) (sym split)
          (all-append (λ (x : Saying). stops x.message ≡ false) (sayings_of message.ChannelSubscribe reply) (map note begins.new) (quiet_stops (sayings_of message.ChannelSubscribe reply) quiet) (notes_no_stop begins.new)))
          (λ c k part told.
          subst (λ l. Flow h b.subs c (hear_parts c k (cut_all m.limit m.number m.blobs l)) × ((hear_parts c k (cut_all m.limit m.number m.blobs l)).stops ≡ k.stops)) (sym split)
          (quiet_before m.limit m.number c (sayings_of message.ChannelSubscribe reply) (map note begins.new) m.blobs k (λ j. Flow h b.subs c j × (j.stops ≡ k.stops)) quiet
          (λ blobs.
          let heard = notes_heard m.limit m.number blobs c begins.new k begins.solid part in (
            record {
              told = ap (λ (j : Heard). j.told) heard ∙ ap (λ l. l ++ of_channel c begins.new) (told ∙ ap (λ (x : Subbed). owes h x c) (sym is) ∙ sym (same c)) ∙ begins.flows c;
              part = ap (λ (j : Heard). j.part) heard;
            },
            ap (λ (j : Heard). j.stops) heard,
          ))))
          (λ c x e. begins.stays c x (ap (λ (y : Subbed). sub_of c y.subs) is ∙ e))

  begins_lead : (r : Request) (items : List (List ℕ × ChannelSubscribeInfo)) (m : State) → Hushed s m → GoesTo (on_outcome message.ChannelSubscribe pending.Subscriptions r (begin_outcome m.subs.subs items) m)
  begins_lead r items m q = by (sent_keys (λ a. a) (asked_of m.subs items)) refl
    where
      ds : List (List ℕ × Decision StartAsk)
      ds = kept (λ a. a) (asked_of m.subs items)

      at_place : (p : ℕ) (asks : List (List ℕ × StartAsk)) → sent_keys (λ a. a) (asked_of m.subs items) ≡ asks → last ≤ p → p ≤ length h
          → After config h p sent s (given (record m { pending = Some (pending.Subscriptions r (keeps_subscription.Subscribe ds)) }) (answered config (take p h) (call.Subscribe asks))) (CausesAt p)
      at_place p asks e le top =
          let size : length (take p h) ≡ min p (length h) = length-take p h in
          let mark : length (take p h) ≡ p = omega (arith, size, top) in
          subst (λ (a : Answer). After config h p sent s (given (record m { pending = Some (pending.Subscriptions r (keeps_subscription.Subscribe (kept (λ a. a) (asked_of m.subs items)))) }) a) (CausesAt p))
          (sym (started_answer config (take p h) asks))
          (subst (λ (x : ℕ × List (List ℕ × StartAsk)). After config h p sent s
          (on_subscriptions_answered r (started_reply x.0 m.subs (keeps_subscription.Subscribe (kept (λ a. a) (asked_of m.subs items))) (started (channels_of config (take p h)) whole_room x.1)) (record m { pending = None })) (CausesAt p))
          (λ i. (sym mark i, e i))
          (begins_after r m.subs items (record m { pending = None }) p q.subs (record { config = q.config; subs = q.subs; unheard = q.unheard }) le top))

      by : (asks : List (List ℕ × StartAsk)) → sent_keys (λ a. a) (asked_of m.subs items) ≡ asks → GoesTo (on_outcome message.ChannelSubscribe pending.Subscriptions r (subscribe_call (called subscribe_response ds asks)) m)
      by [] e = replies_lead r (unasked subscribe_response ds) m (quiet_replies subscribe_response (λ g. (refl, refl)) [] (refused_keys ds)) q
      by (x ∷ xs) e = (record { config = q.config; subs = q.subs; unheard = q.unheard }, λ p le top. at_place p (x ∷ xs) e le top)

  -- ---- a message

  leaving_leads : (r : Request) (why : Option ErrorCode) (v : Subbed) (ids : List (List ℕ × ℤ)) (m : State) → Causes Unsubscribed → v ≡ s.subs → Hushed s m → GoesTo (on_subscriptions r (unless_leaving why v (stop_outcome v ids)) m)
  leaving_leads r (Some code) v ids m cause is q = replies_lead r (refusal_alone code) (record m { subs = v }) ((refl, refl), tt) (record { config = q.config; subs = is; unheard = q.unheard })
  leaving_leads r None v ids m cause is q = stopping_leads r v ids m cause is q

  pub subscribing_leads : Causes Unsubscribed → (r : Request) (x : ChannelSubscribeMessage) (m : State) → Hushed s m → GoesTo (on_subscriptions r (subscribe_outcome m.subs x) m)
  subscribing_leads cause r (subscribe.GetChannelMetadata x) m q =
      let items = checked (λ s uri. (s, object_uri uri)) nothing x.uris in
      unless_leads r (keys_refusal x.uris) (metadata_outcome x.uris) m q (metadata_leads r (kept (λ uri. nothing) items) (sent_keys (λ uri. uri) items) m q)
  subscribing_leads cause r (subscribe.SubscribeChannels x) m q = unless_leads r (keys_refusal x.channels) (begin_outcome m.subs.subs x.channels) m q (begins_lead r x.channels m q)
  subscribing_leads cause r (subscribe.UnsubscribeChannels x) m q = leaving_leads r (keys_refusal x.channel_ids) m.subs x.channel_ids m cause q.subs q
  subscribing_leads cause r (subscribe.GetRanges x) m q =
      unless_leads r (ranges_refusal x.channel_ranges) (Calls (call.Range (asks_of x.channel_ranges)) keeps_subscription.Ranges) m q (aside_leads r (call.Range (asks_of x.channel_ranges)) keeps_subscription.Ranges m tt q)
  subscribing_leads cause r (subscribe.GetChannelMetadataResponse x) m q = replies_lead r (refusal_alone InvalidMessageType) m ((refl, refl), tt) q
  subscribing_leads cause r (subscribe.ChannelData x) m q = replies_lead r (refusal_alone InvalidMessageType) m ((refl, refl), tt) q
  subscribing_leads cause r (subscribe.RangeReplaced x) m q = replies_lead r (refusal_alone InvalidMessageType) m ((refl, refl), tt) q
  subscribing_leads cause r (subscribe.SubscriptionsStopped x) m q = replies_lead r (refusal_alone InvalidMessageType) m ((refl, refl), tt) q
  subscribing_leads cause r (subscribe.GetRangesResponse x) m q = replies_lead r (refusal_alone InvalidMessageType) m ((refl, refl), tt) q
  subscribing_leads cause r (subscribe.SubscribeChannelsResponse x) m q = replies_lead r (refusal_alone InvalidMessageType) m ((refl, refl), tt) q
  subscribing_leads cause r (subscribe.ChannelsTruncated x) m q = replies_lead r (refusal_alone InvalidMessageType) m ((refl, refl), tt) q

  -- ---- a poll

  module _ (small : HasIds config) (stay : NewsStayWithin) (due : NewsAreTheDue) (each : NewsOfEach)
      (lagged : (p k : ℕ) → k ≡ lag (dues config s.subs.subs s.subs.cursor (drop s.subs.cursor (take p h))) → config.lag < k → CausesAt p (Lagged k)) where
    abbrev dues_at : ℕ → List (List ChannelChange)
    dues_at p = dues config s.subs.subs s.subs.cursor (drop s.subs.cursor (take p h))

    small_channel : (c : ℤ) → IsChannel config c → mag c < 2 ^ 63
    small_channel c is = let e : mag c ≡ is.0 = ap mag is.1 in let f = is.2 in omega (arith, e, f, small)

    late_after : (p mark upto : ℕ) (changes : List ChannelChange) → last ≤ p → config.lag < lag (dues_at p) → After config h p sent s (on_subscriptions_answered unread (news_told (Some (Lagged (lag (dues_at p)))) mark changes s.subs) (record s { pending = None })) (CausesAt p)
    late_after p mark upto changes le late =
        let m : State = record s { pending = None } in
        let cause : StopCause = Lagged (lag (dues_at p)) in
        let on : Keeps config p s.subs = keeps_on config last p s.subs le flowing.keeps in
        stopped_after config h last p sent s m (CausesAt p) flowing (record { config = refl; subs = refl; unheard = λ c k. refl }) unread
        (sayings_of message.ChannelSubscribe (Notice (stop_response cause (ids_of s.subs.subs)) ∷ [])) (record s.subs { subs = [] }) cause (lagged p (lag (dues_at p)) refl late) le
        (record { pending = on.pending; within = on.within; apart = tt; known = tt }) refl (refl, tt)
        (λ c k.
        subst (λ (j : Heard). Ends (reason_of cause) k (sub_of c s.subs.subs) j None) (sym (stop_heard m.limit m.number m.blobs c to.Nobody cause (ids_of s.subs.subs) [] k))
        (all_stopped (reason_of cause) c s.subs.subs k on.apart (all-weaker (IsKnown config p) (λ (x : Sub). mag x.channel < 2 ^ 63) (λ x i. small_channel x.channel i.1) s.subs.subs on.known)))

    told_after : (p : ℕ) → last ≤ p → p ≤ length h
        → After config h p sent s (on_subscriptions_answered unread (news_told None (s.subs.cursor + length (come config h stay due each p s.subs)) (joined (come config h stay due each p s.subs)) s.subs) (record s { pending = None })) (CausesAt p)
    told_after p le top =
        let m : State = record s { pending = None } in
        let v : Subbed = s.subs in
        let xs : List Saying = sayings_of message.ChannelSubscribe (map notice (v.pending ++ news_of config h stay due each p v)) in
        let all : xs ≡ map note (news_of config h stay due each p v) = ap (λ l. sayings_of message.ChannelSubscribe (map notice (l ++ news_of config h stay due each p v))) flowing.keeps.pending ∙ notes_said (news_of config h stay due each p v) in
        grown_after config h last p sent s m (CausesAt p) flowing (record { config = refl; subs = refl; unheard = λ c k. refl }) unread xs (told_on config h stay due each p v) top
        (news_keep config h stay due each p last v top le flowing.keeps)
        (subst (AllByRecursion (λ (x : Saying). stops x.message ≡ false)) (sym all) (notes_no_stop (news_of config h stay due each p v)))
        (λ c k part told.
        subst (λ l. Flow h (told_on config h stay due each p v) c (hear_parts c k (cut_all m.limit m.number m.blobs l)) × ((hear_parts c k (cut_all m.limit m.number m.blobs l)).stops ≡ k.stops)) (sym all)
        (news_heard config h stay due each p last m.limit m.number m.blobs v c k top le flowing.keeps part told))
        (λ c x e. e)

    news_after_at : (p : ℕ) → last ≤ p → p ≤ length h
        → After config h p sent s (given (record s { pending = Some (pending.Subscriptions unread keeps_subscription.News) }) (answered config (take p h) (call.News s.subs.cursor s.subs.subs))) (CausesAt p)
    news_after_at p le top =
        let size : length (take p h) ≡ min p (length h) = length-take p h in
        let within = flowing.keeps.within in
        let cursor : min s.subs.cursor (length (take p h)) ≡ s.subs.cursor = omega (arith, size, top, le, within) in
        subst (λ (a : Answer). goal p a) (sym (news_answer config (take p h) s.subs.cursor s.subs.subs))
        (subst (λ (u : ℕ). goal p (record { mark = length (take p h); reply = news_by config.lag u (length (take p h)) (dues config s.subs.subs u (drop u (take p h))) })) (sym cursor)
        (by p le top (nat_lt config.lag (lag (dues_at p))) refl))
      where
        goal : ℕ → Answer → Type 0
        goal p a = After config h p sent s (given (record s { pending = Some (pending.Subscriptions unread keeps_subscription.News) }) a) (CausesAt p)

        cause_of : (k : ℕ) (b : Bool) → nat_lt config.lag k ≡ b → lag_cause s.config.lag k ≡ (if b then Some (Lagged k) else None)
        cause_of k b e = ap (λ (x : Config). if nat_lt x.lag k then Some (Lagged k) else None) flowing.same_config ∙ ap (λ (b : Bool). if b then Some (Lagged k) else None) e

        by : (p : ℕ) → last ≤ p → p ≤ length h → (b : Bool) → nat_lt config.lag (lag (dues_at p)) ≡ b
            → goal p (record { mark = length (take p h); reply = if b then answer.News (length (take p h)) (lag (dues_at p)) [] else answer.News (s.subs.cursor + length (taken 0 0 (dues_at p))) (lag (dues_at p)) (joined (taken 0 0 (dues_at p))) })
        by p le top true e =
            let late : config.lag < lag (dues_at p) = grind (arith, nat_tests, e) in
            subst (λ (o : Option StopCause). After config h p sent s (on_subscriptions_answered unread (news_told o (length (take p h)) [] s.subs) (record s { pending = None })) (CausesAt p))
            (sym (cause_of (lag (dues_at p)) true e)) (late_after p (length (take p h)) 0 [] le late)
        by p le top false e =
            subst (λ (o : Option StopCause). After config h p sent s
            (on_subscriptions_answered unread (news_told o (s.subs.cursor + length (taken 0 0 (dues_at p))) (joined (taken 0 0 (dues_at p))) s.subs) (record s { pending = None })) (CausesAt p))
            (sym (cause_of (lag (dues_at p)) false e)) (told_after p le top)

    pub polling_leads : (front : ℕ) → GoesTo (on_poll (news_call s.subs front) s)
    polling_leads front = by_subs s.subs.subs
      where
        quiet : Hushed s s
        quiet = record { config = refl; subs = refl; unheard = λ c k. refl }

        by_front : (b : Bool) → GoesTo (on_poll (if b then Some (call.News s.subs.cursor s.subs.subs) else None) s)
        by_front true = (record { config = refl; subs = refl; unheard = λ c k. refl }, λ p le top. news_after_at p le top)
        by_front false = quiet_leads config h last sent s flowing Causes CausesAt s quiet

        by_subs : (xs : List Sub) → GoesTo (on_poll (news_from s.subs.subs front (cursor_with xs s.subs.cursor)) s)
        by_subs [] = quiet_leads config h last sent s flowing Causes CausesAt s quiet
        by_subs (x ∷ xs) = by_front (nat_lt s.subs.cursor front)
