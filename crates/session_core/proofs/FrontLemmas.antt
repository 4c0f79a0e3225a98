-- What is heard in a front of what a run sends.
use Rattle.std.specs.Prelude.{ℕ, ℤ, Bool, true, false, List, [], ◌∷◌, ◌++◌, ◌≡◌, ◌≤◌, ◌<◌, Option, Some, None, fold, length, nat_le, take, if◌then◌else◌, refl}
use Rattle.std.specs.List.{list_any}
use Rattle.std.specs.Ordering.{int_eq}
use Rattle.std.proofs.Common.{◌⊎◌, inl, inr, ap, sym, ◌∙◌, subst, arith, append_assoc, append-nil}
use Rattle.std.proofs.lemmas.Bool.Decides.{nat_tests}
use Rattle.std.proofs.lemmas.List.Sums.{fold-append}
use mathlib.Core.List.{IsPrefix}
use Rattle.server_config.specs.declared.config.Config.{Config}
use Rattle.channel_rows.specs.Notices.{reason_of}
use Rattle.channel_store.specs.declared.change.What.{What}
use Rattle.channel_store.specs.declared.subscription.Sub.{Sub}
use Rattle.etp_frame.specs.Header.{final_part, has_flag}
use Rattle.etp_frame.specs.declared.message.Message.{Message}
use Rattle.etp_frame.specs.declared.message.Message.TheVariants as message
use Rattle.etp_values.specs.declared.point.Point.{Point}
use Rattle.etp_values.proofs.PrefixLemmas.{prefix_self, prefix_shorter, prefix_trans}
use Rattle.msg_channel.specs.declared.channel_subscribe_messages.ChannelSubscribeMessage.{ChannelSubscribeMessage}
use Rattle.msg_channel.specs.declared.channel_subscribe_messages.ChannelSubscribeMessage.TheVariants as subscribe
use Rattle.store_machine.specs.Answers.{answered}
use Rattle.store_machine.specs.Laws.{NewsAreTheDue, NewsOfEach, NewsStayWithin}
use Rattle.store_machine.specs.declared.call.StoreCall.{StoreCall}
use Rattle.store_machine.specs.declared.journal.Entry.{Entry}
use Rattle.subscribe_core.specs.Subscriptions.{Subbed}
use Rattle.subscribe_core.specs.Views.{sub_of}
use Rattle.subscribe_core.specs.declared.stop.StopCause.{StopCause}
use Rattle.session_core.specs.declared.state.Outgoing.{Outgoing}
use Rattle.session_core.specs.State.{State}
use Rattle.session_core.specs.Arriving.{Event}
use Rattle.session_core.specs.Run.{Course, answered_at, asked, first_course, happens, happens_unless, hears, moment_of, run_from, takes}
use Rattle.session_core.specs.Streams.{FrontIsStreamed, HasIds, Heard, IsCut, IsStopCause, IsStopped, Stopped, cuts_in, gathers, hear, hear_message, hear_notice, hear_stops, heard, is_spent_course, owed, owed_by, owed_to, silence, stops_for}
use Rattle.session_core.proofs.HearingLemmas.{prefix_none}
use Rattle.session_core.proofs.StreamingLemmas.{IsSame, Kept, course_cut, course_stops, course_streams, event_out, kept_first, kept_step, spent_same}

-- ---- what is heard later

-- no stop came between, and no less was sent
record TellsOn (j k : Heard) : Type 0 where
  stops : k.stops ≡ j.stops
  told : IsPrefix j.told k.told

-- a stop came between, up to which no less was sent
record StopsOn (j k : Heard) : Type 0 where
  first : Stopped
  more : List Stopped
  stops : k.stops ≡ j.stops ++ first ∷ more
  told : IsPrefix j.told first.told

abbrev IsLater : Heard → Heard → Type 0
IsLater j k = TellsOn j k ⊎ StopsOn j k

later_self : (k : Heard) → IsLater k k
later_self k = inl (record { stops = refl; told = prefix_self k.told })

later_trans : (i j k : Heard) → IsLater i j → IsLater j k → IsLater i k
later_trans i j k (inl a) (inl b) = inl (record { stops = b.stops ∙ a.stops; told = prefix_trans i.told j.told k.told a.told b.told })
later_trans i j k (inl a) (inr b) = inr (record {
  first = b.first;
  more = b.more;
  stops = b.stops ∙ ap (λ l. l ++ b.first ∷ b.more) a.stops;
  told = prefix_trans i.told j.told b.first.told a.told b.told;
})
later_trans i j k (inr a) (inl b) = inr (record { first = a.first; more = a.more; stops = b.stops ∙ a.stops; told = a.told })
later_trans i j k (inr a) (inr b) = inr (record {
  first = a.first;
  more = a.more ++ b.first ∷ b.more;
  stops = b.stops ∙ ap (λ l. l ++ b.first ∷ b.more) a.stops ∙ append_assoc i.stops (a.first ∷ a.more) (b.first ∷ b.more);
  told = a.told;
})

stops_stay : (j k : Heard) → IsLater j k → IsPrefix j.stops k.stops
stops_stay j k (inl a) = ([], append-nil j.stops ∙ sym a.stops)
stops_stay j k (inr a) = (a.first ∷ a.more, sym a.stops)

-- ---- each message is later

later_gathers : (last : Bool) (whole : List Point → List What) (points : List Point) (k : Heard) → IsLater k (gathers last whole points k)
later_gathers false whole points k = inl (record { stops = refl; told = prefix_self k.told })
later_gathers true whole points k = inl (record { stops = refl; told = (whole (k.part ++ points), refl) })

later_if : (b : Bool) (j k : Heard) → IsLater k j → IsLater k (if b then j else k)
later_if true j k is = is
later_if false j k is = later_self k

later_stop : (reason : List ℕ) (k : Heard) → IsLater k (stops_for reason k)
later_stop reason k = inr (record { first = record { reason = reason; told = k.told }; more = []; stops = refl; told = prefix_self k.told })

later_stops : (c : ℤ) (reason : List ℕ) (ids : List (List ℕ × ℤ)) (k : Heard) → IsLater k (hear_stops c reason ids k)
later_stops c reason [] k = later_self k
later_stops c reason (x ∷ ids) k =
    later_trans k (if int_eq x.1 c then stops_for reason k else k) (hear_stops c reason (x ∷ ids) k)
    (later_if (int_eq x.1 c) (stops_for reason k) k (later_stop reason k)) (later_stops c reason ids (if int_eq x.1 c then stops_for reason k else k))

later_notice : (c : ℤ) (last : Bool) (m : ChannelSubscribeMessage) (k : Heard) → IsLater k (hear_notice c last m k)
later_notice c last (subscribe.GetChannelMetadata x) k = later_self k
later_notice c last (subscribe.GetChannelMetadataResponse x) k = later_self k
later_notice c last (subscribe.SubscribeChannels x) k = later_self k
later_notice c last (subscribe.ChannelData x) k = later_gathers last _ _ k
later_notice c last (subscribe.RangeReplaced x) k = later_if (list_any (int_eq c) x.channel_ids) _ k (later_gathers last _ _ k)
later_notice c last (subscribe.UnsubscribeChannels x) k = later_self k
later_notice c last (subscribe.SubscriptionsStopped x) k = later_stops c x.reason x.channel_ids k
later_notice c last (subscribe.GetRanges x) k = later_self k
later_notice c last (subscribe.GetRangesResponse x) k = later_self k
later_notice c last (subscribe.SubscribeChannelsResponse x) k = later_self k
later_notice c last (subscribe.ChannelsTruncated x) k = inl (record { stops = refl; told = (cuts_in c x.channels, refl) })

later_message : (c : ℤ) (last : Bool) (m : Message) (k : Heard) → IsLater k (hear_message c last m k)
later_message c last (message.Core x) k = later_self k
later_message c last (message.Transaction x) k = later_self k
later_message c last (message.Dataspace x) k = later_self k
later_message c last (message.Store x) k = later_self k
later_message c last (message.DataArray x) k = later_self k
later_message c last (message.ChannelSubscribe x) k = later_notice c last x k
later_message c last (message.ChannelDataLoad x) k = later_self k

later_all : (c : ℤ) (xs : List Outgoing) (k : Heard) → IsLater k (fold (hear c) k xs)
later_all c [] k = later_self k
later_all c (x ∷ xs) k =
    later_trans k (hear c k x) (fold (hear c) (hear c k x) xs) (later_message c (has_flag x.header.flags final_part) x.message k) (later_all c xs (hear c k x))

heard_later : (c : ℤ) (xs ys : List Outgoing) → IsPrefix xs ys → IsLater (heard c xs) (heard c ys)
heard_later c xs ys p =
    subst (λ (l : List Outgoing). IsLater (heard c xs) (heard c l)) p.1
    (subst (IsLater (heard c xs)) (sym (fold-append (hear c) silence xs p.0)) (later_all c p.0 (heard c xs)))

-- ---- between what was heard before an event and after it

no_more : {A : Type 0} (old front rest : List A) (x : A) → IsPrefix old front → front ++ x ∷ rest ≡ old → ⊥
no_more [] [] rest x p e = cc e
no_more [] (f ∷ fs) rest x p e = cc e
no_more (o ∷ os) [] rest x p e = cc (p.1)
no_more (o ∷ os) (f ∷ fs) rest x p e = no_more os fs rest x (p.0, cc (p.1)) (cc e)

last_is : {A : Type 0} (old front rest : List A) (x y : A) → IsPrefix old front → front ++ x ∷ rest ≡ old ++ y ∷ [] → x ≡ y
last_is [] [] rest x y p e = cc e
last_is [] (f ∷ []) rest x y p e = absurd (cc e)
last_is [] (f ∷ g ∷ fs) rest x y p e = absurd (cc e)
last_is (o ∷ os) [] rest x y p e = absurd (cc (p.1))
last_is (o ∷ os) (f ∷ fs) rest x y p e = last_is os fs rest x y (p.0, cc (p.1)) (cc e)

-- the one stop of an event came after all that was sent before the event
stop_told : (Causes : StopCause → Type 0) (o w : Option Sub) (i j : Heard) (x : Stopped) (rest all : List Stopped) (most : List What)
    → IsPrefix i.stops j.stops → j.stops ++ x ∷ rest ≡ all → IsStopped Causes o w i.told i.stops all → (w ≡ None → i.told ≡ most) → x.told ≡ most
stop_told Causes None w i j x rest all most p e stopped before = absurd (no_more i.stops j.stops rest x p (e ∙ stopped))
stop_told Causes (Some s) (Some t) i j x rest all most p e stopped before = absurd (no_more i.stops j.stops rest x p (e ∙ stopped.0))
stop_told Causes (Some s) None i j x rest all most p e stopped before =
    ap (λ (y : Stopped). y.told) (last_is i.stops j.stops rest x (record { reason = reason_of stopped.0; told = i.told }) p (e ∙ stopped.2)) ∙ before refl

-- so what is heard in between is no more than what was owed
told_between : (Causes : StopCause → Type 0) (o w : Option Sub) (i j k : Heard) (all : List Stopped) (most : List What)
    → IsLater i j → IsLater j k → IsPrefix k.told most → IsStopped Causes o w i.told i.stops all → IsPrefix k.stops all → (w ≡ None → i.told ≡ most) → IsPrefix j.told most
told_between Causes o w i j k all most a (inl b) told stopped stays before = prefix_trans j.told k.told most b.told told
told_between Causes o w i j k all most a (inr b) told stopped stays before =
    let e : j.stops ++ b.first ∷ (b.more ++ stays.0) ≡ all = sym (append_assoc j.stops (b.first ∷ b.more) stays.0) ∙ ap (λ l. l ++ stays.0) (sym b.stops) ∙ stays.1 in
    subst (IsPrefix j.told) (stop_told Causes o w i j b.first (b.more ++ stays.0) all most (stops_stay i j a) e stopped before) b.told

cut_between : (config : Config) (h : List Entry) (r : Course) (e : Event) (v : Subbed) (front whole : List Outgoing)
    → ((c : ℤ) → (heard c r.sent).told ≡ owed h r.state.subs c) → IsPrefix r.sent front → IsPrefix front whole → IsCut config h r e v whole → IsCut config h r e v front
cut_between config h r e v front whole told low high cut c =
    let x = cut c in
    let a : IsLater (heard c r.sent) (heard c front) = heard_later c r.sent front low in
    let b : IsLater (heard c front) (heard c whole) = heard_later c front whole high in (
      told_between (IsStopCause config h r.state.subs r.places e) (sub_of c r.state.subs.subs) (sub_of c v.subs) (heard c r.sent) (heard c front) (heard c whole) x.1.0
          (owed_by h r.state.subs v (sub_of c v.subs) c) a b x.0 x.1.1 x.1.2 (λ none. told c ∙ sym (ap (λ (o : Option Sub). owed_by h r.state.subs v o c) none)),
      (x.1.0, x.1.1, prefix_trans (heard c front).stops (heard c whole).stops x.1.0 (stops_stay (heard c front) (heard c whole) b) x.1.2),
    )

-- what is owed after an event was owed by it
told_whole : (h : List Entry) (v w : Subbed) (c : ℤ) (told : List What) (o : Option Sub) → sub_of c w.subs ≡ o → told ≡ owed h w c → IsPrefix told (owed_by h v w o c)
told_whole h v w c told None e is = subst (λ l. IsPrefix l (owed h v c)) (sym (is ∙ ap (owed_to h w.cursor) e)) (prefix_none (owed h v c))
told_whole h v w c told (Some s) e is = subst (IsPrefix told) (is ∙ ap (owed_to h w.cursor) e) (prefix_self told)

-- ---- what was sent stays sent

module _ (config : Config) (n : ℕ) (h : List Entry) where
  answered_sends : (at : ℤ) (r : Course) (t : State) (call : StoreCall) (ps : List ℕ) → IsPrefix r.sent (answered_at config n h at r t call ps).sent
  answered_sends at r t call [] = (t.out, refl)
  answered_sends at r t call (p ∷ ps) = ((hears t (answered config (take p h) call)).out, refl)

  asked_sends : (at : ℤ) (r : Course) (t : State) (o : Option StoreCall) → IsPrefix r.sent (asked config n h at r t o).sent
  asked_sends at r t None = (t.out, refl)
  asked_sends at r t (Some call) = answered_sends at r t call r.places

  event_sends : (short : Bool) (r : Course) (e : Event) → IsPrefix r.sent (happens_unless config n h short r e).sent
  event_sends true r e = prefix_self r.sent
  event_sends false r e = asked_sends (moment_of e) r (takes r.state e).state (takes r.state e).call

  run_sends : (r : Course) (es : List Event) → IsPrefix r.sent (run_from config n h r es).sent
  run_sends r [] = prefix_self r.sent
  run_sends r (e ∷ es) = prefix_trans r.sent (happens config n h r e).sent (run_from config n h r (e ∷ es)).sent (event_sends r.short r e) (run_sends (happens config n h r e) es)

-- ---- the event within which a front ends

module _ (config : Config) (n : ℕ) (h : List Entry) (small : HasIds config) (stay : NewsStayWithin) (due : NewsAreTheDue) (each : NewsOfEach) where
  abbrev IsKept : Course → Type 0
  IsKept r = Kept config n h small stay due each r

  abbrev next : Course → Event → Course
  next r e = happens config n h r e

  kept_next : (r : Course) (e : Event) → IsKept r → IsKept (next r e)
  kept_next r e k = kept_step config n h small stay due each r.short r e k

  event_cut : (r : Course) (e : Event) → IsKept r → is_spent_course r ≡ false → IsCut config h r e (next r e).state.subs (next r e).sent
  event_cut r e k alive = by (is_spent_course (next r e)) refl
    where
      by : (b : Bool) → is_spent_course (next r e) ≡ b → IsCut config h r e (next r e).state.subs (next r e).sent
      by true spent = course_cut config n h small stay due each r.short r e k alive spent
      by false live = λ c. (
        told_whole h r.state.subs (next r e).state.subs c (heard c (next r e).sent).told (sub_of c (next r e).state.subs.subs) refl
            (course_streams config n h small stay due each (next r e) (kept_next r e k) live c).0,
        ((heard c (next r e).sent).stops, course_stops config n h small stay due each r.short r e k live c, prefix_self (heard c (next r e).sent).stops),
      )

  record CutAt (r : Course) (es : List Event) (front : List Outgoing) : Type 0 where
    before : List Event
    e : Event
    later : List Event
    split : es ≡ before ++ e ∷ later
    alive : is_spent_course (run_from config n h r before) ≡ false
    low : IsPrefix (run_from config n h r before).sent front
    high : IsPrefix front (run_from config n h r (before ++ e ∷ [])).sent
    cut : IsCut config h (run_from config n h r before) e (run_from config n h r (before ++ e ∷ [])).state.subs front

  cut_here : (r : Course) (e : Event) (es : List Event) (front : List Outgoing) → IsKept r → is_spent_course r ≡ false → IsPrefix r.sent front → IsPrefix front (next r e).sent → CutAt r (e ∷ es) front
  cut_here r e es front k alive low high = record {
    before = [];
    e = e;
    later = es;
    split = refl;
    alive = alive;
    low = low;
    high = high;
    cut = cut_between config h r e (next r e).state.subs front (next r e).sent (λ c. (course_streams config n h small stay due each r k alive c).0) low high (event_cut r e k alive);
  }

  cut_at : (r : Course) (e : Event) (es : List Event) (front : List Outgoing) → IsKept r → is_spent_course r ≡ false → IsPrefix r.sent front → IsPrefix front (run_from config n h r (e ∷ es)).sent → CutAt r (e ∷ es) front
  cut_at r e [] front k alive low high = cut_here r e [] front k alive low high
  cut_at r e (x ∷ es) front k alive low high =
      by (is_spent_course (next r e)) refl (nat_le (length front) (length (next r e).sent)) refl (λ live begun. cut_at (next r e) x es front (kept_next r e k) live begun high)
    where
      by : (b : Bool) → is_spent_course (next r e) ≡ b → (within : Bool) → nat_le (length front) (length (next r e).sent) ≡ within
          → (is_spent_course (next r e) ≡ false → IsPrefix (next r e).sent front → CutAt (next r e) (x ∷ es) front) → CutAt r (e ∷ x ∷ es) front
      by true spent within test rest =
          let same : IsSame config n h small stay due each (next r e) (run_from config n h (next r e) (x ∷ es)) =
          spent_same config n h small stay due each (next r e) (x ∷ es) spent (event_out config n h small stay due each r.short r e (k.flows alive).out) in
          cut_here r e (x ∷ es) front k alive low (subst (IsPrefix front) same.sent high)
      by false live true test rest =
          let short : length front ≤ length (next r e).sent = grind (arith, nat_tests, test) in
          cut_here r e (x ∷ es) front k alive low
          (prefix_shorter front (next r e).sent (run_from config n h (next r e) (x ∷ es)).sent high (run_sends config n h (next r e) (x ∷ es)) short)
      by false live false test rest =
          let over : length (next r e).sent < length front = grind (arith, nat_tests, test) in
          let short : length (next r e).sent ≤ length front = omega (arith, over) in
          let y : CutAt (next r e) (x ∷ es) front =
          rest live (prefix_shorter (next r e).sent front (run_from config n h (next r e) (x ∷ es)).sent (run_sends config n h (next r e) (x ∷ es)) high short) in
          record { before = e ∷ y.before; e = y.e; later = y.later; split = ap (λ (l : List Event). e ∷ l) y.split; alive = y.alive; low = y.low; high = y.high; cut = y.cut }

-- ---- the law

front_of_none : {A : Type 0} (front : List A) → IsPrefix front [] → front ≡ []
front_of_none [] p = refl
front_of_none (x ∷ xs) p = absurd (cc (p.1))

pub front_is_streamed : (stay : NewsStayWithin) (due : NewsAreTheDue) (each : NewsOfEach) → FrontIsStreamed
front_is_streamed stay due each config n h places [] front small rises is = front_of_none front is
front_is_streamed stay due each config n h places (e ∷ es) front small rises is =
    let x : CutAt config n h small stay due each (first_course config n places) (e ∷ es) front =
    cut_at config n h small stay due each (first_course config n places) e es front (kept_first config n h small stay due each places rises) refl (prefix_none front) is in
    record { before = x.before; e = x.e; later = x.later; split = x.split; alive = x.alive; low = x.low; high = x.high; cut = x.cut }
