-- The streams along a run; for the crates above too.
use Rattle.std.specs.Prelude.{ℕ, ℤ, Bool, true, false, List, [], ◌∷◌, ◌++◌, ◌≡◌, ◌≤◌, Option, Some, None, max, take, drop, length, nat_lt, if◌then◌else◌, refl}
use Rattle.std.proofs.Common.{ap, sym, ◌∙◌, subst, arith, append-nil}
use Rattle.std.proofs.lemmas.Bool.{false≢true, false_from_ne_true}
use Rattle.std.proofs.lemmas.Bool.Decides.{nat_tests}
use Rattle.std.proofs.lemmas.Option.{none-some}
use Rattle.server_config.specs.declared.config.Config.{Config}
use Rattle.channel_rows.specs.Subscriptions.{news_call, news_from}
use Rattle.channel_store.specs.declared.subscription.Sub.{Sub}
use Rattle.store_machine.specs.Answers.{answered}
use Rattle.store_machine.specs.Laws.{NewsAreTheDue, NewsOfEach, NewsStayWithin}
use Rattle.store_machine.specs.News.{stream}
use Rattle.store_machine.specs.declared.call.StoreCall.{StoreCall}
use Rattle.store_machine.specs.declared.call.StoreCall.TheVariants as call
use Rattle.store_machine.specs.declared.journal.Entry.{Entry}
use Rattle.subscribe_core.specs.Subscriptions.{Subbed, cursor_with}
use Rattle.subscribe_core.specs.Views.{sub_of}
use Rattle.subscribe_core.specs.declared.stop.StopCause.{StopCause}
use Rattle.session_core.specs.declared.state.Arrived.{Arrived}
use Rattle.session_core.specs.declared.state.Arrived.TheVariants as arrives
use Rattle.session_core.specs.declared.state.Live.{Live}
use Rattle.session_core.specs.declared.state.Outgoing.{Outgoing}
use Rattle.session_core.specs.declared.state.Phase.{Phase}
use Rattle.session_core.specs.declared.state.Phase.TheVariants as phase
use Rattle.session_core.specs.State.{State}
use Rattle.session_core.specs.Arriving.{Event, Receives, Polls, arrived}
use Rattle.session_core.specs.Machine.{by_phase, given, on_poll, taken}
use Rattle.session_core.specs.Run.{Course, Heeds, HeedsFrom, IsHeeded, answered_at, asked, drained, first_course, happens, happens_unless, hears, moment_of, run, run_from, takes}
use Rattle.etp_values.specs.Rising.{Rises}
use Rattle.etp_values.proofs.RisingLemmas.{rises_bound}
use Rattle.session_core.specs.Streams.{HasIds, HasSpent, HasStopped, HasTold, IsCut, IsStopCause, IsStopped, RunIsStreamed, RunIsToldAtIdle, heard, is_spent_course, is_spent_phase, owed, owed_to}
use Rattle.session_core.proofs.MovingLemmas.{After, Flow, Flowing, hushed_after, hushed_self, known_of, owed_is, stopped_same}
use Rattle.session_core.proofs.RunLemmas.{run_snoc}
use Rattle.session_core.proofs.StartingLemmas.{IsKnown, Keeps}
use Rattle.session_core.proofs.SubscribingLemmas.{polling_leads, subscribing_leads}
use Rattle.session_core.proofs.WalkingLemmas.{IsReceived, Leads, phase_leads, quiet_leads}
use Rattle.session_core.proofs.ArrivalLemmas.{IsArrival, arrival_of}

-- ---- a message is no poll

received_of : (bytes : List ℕ) (moment : ℤ) (a : Arrived) → IsArrival (Receives bytes moment) a → IsReceived a
received_of bytes moment (arrives.Unreadable c) is = tt
received_of bytes moment (arrives.Stale r) is = tt
received_of bytes moment (arrives.Refused r c) is = tt
received_of bytes moment (arrives.Fresh h at m) is = tt
received_of bytes moment (arrives.Polled front) is = is

-- ---- used up ids

module _ (config : Config) (n : ℕ) (h : List Entry) where
  ended_stays : (r : Course) (e : Event) → is_spent_course r ≡ true → is_spent_course (asked config n h (moment_of e) r (takes r.state e).state (takes r.state e).call) ≡ true
  unfolding takes
  ended_stays r e spent = by r.state.phase refl
    where
      by : (p : Phase) → r.state.phase ≡ p → is_spent_course (asked config n h (moment_of e) r (by_phase p (arrived r.state.last_id e) r.state).state (by_phase p (arrived r.state.last_id e) r.state).call) ≡ true
      by (phase.Live l) f = absurd (false≢true (sym (ap is_spent_phase f) ∙ spent))
      by (phase.Ended x) f = spent

  pub spent_stays : (short : Bool) (r : Course) (e : Event) → is_spent_course r ≡ true → is_spent_course (happens_unless config n h short r e) ≡ true
  spent_stays true r e spent = spent
  spent_stays false r e spent = ended_stays r e spent

module _ (config : Config) (n : ℕ) (h : List Entry) (small : HasIds config) (stay : NewsStayWithin) (due : NewsAreTheDue) (each : NewsOfEach) where
  -- ---- one event

  abbrev Causes : Course → Event → StopCause → Type 0
  Causes r e = IsStopCause config h r.state.subs r.places e

  abbrev CausesAt : Course → Event → ℕ → StopCause → Type 0
  CausesAt r e p = IsStopCause config h r.state.subs (p ∷ drop 1 r.places) e

  event_leads : (r : Course) (last : ℕ) (flowing : Flowing config h last r.sent r.state) (e : Event)
      → Leads config h last r.sent r.state flowing (Causes r e) (CausesAt r e) (taken r.state e).state (taken r.state e).call
  event_leads r last flowing (Receives bytes moment) =
      let e : Event = Receives bytes moment in
      phase_leads config h last r.sent r.state flowing (Causes r e) (CausesAt r e)
      (subscribing_leads config h last r.sent r.state flowing (Causes r e) (CausesAt r e) tt)
      r.state.phase (arrived r.state.last_id e) (received_of bytes moment (arrived r.state.last_id e) (arrival_of r.state.last_id e))
  event_leads r last flowing (Polls front) = by r.state.phase
    where
      e : Event
      e = Polls front

      by : (p : Phase) → Leads config h last r.sent r.state flowing (Causes r (Polls front)) (CausesAt r (Polls front)) (by_phase p (arrives.Polled front) r.state).state (by_phase p (arrives.Polled front) r.state).call
      by (phase.Live l) = polling_leads config h last r.sent r.state flowing (Causes r (Polls front)) (CausesAt r (Polls front)) small stay due each (λ p k is late. (is, late)) front
      by (phase.Ended e) = quiet_leads config h last r.sent r.state flowing (Causes r (Polls front)) (CausesAt r (Polls front)) r.state (hushed_self r.state)

  -- what a course becomes by an event
  record Stepped (r t : Course) (e : Event) : Type 0 where
    last : ℕ
    rises : Rises last t.places (length h)
    state : State
    after : After config h last r.sent r.state state (Causes r e)
    is : t.state ≡ drained state
    sent : t.sent ≡ r.sent ++ state.out
    seen : last ≤ t.reach

  asked_stepped : (r : Course) (last : ℕ) (flowing : Flowing config h last r.sent r.state) → Rises last r.places (length h) → last ≤ r.reach → (e : Event) (t : State) (o : Option StoreCall)
      → Leads config h last r.sent r.state flowing (Causes r e) (CausesAt r e) t o → Stepped r (asked config n h (moment_of e) r t o) e
  unfolding hears
  asked_stepped r last flowing rises seen e t None leads = record { last = last; rises = rises; state = t; after = leads; is = refl; sent = refl; seen = seen }
  asked_stepped r last flowing rises seen e t (Some call) leads = by r.places refl
    where
      by : (ps : List ℕ) → r.places ≡ ps → Stepped r (answered_at config n h (moment_of e) r t call ps) e
      by [] is = record {
        last = last;
        rises = flowing.top;
        state = t;
        after = hushed_after config h last last r.sent r.state t (Causes r e) flowing (omega arith) leads.0;
        is = refl;
        sent = refl;
        seen = seen;
      }
      by (p ∷ ps) is =
          let all : Rises last (p ∷ ps) (length h) = subst (λ (l : List ℕ). Rises last l (length h)) is rises in
          let places : p ∷ drop 1 r.places ≡ r.places = ap (λ (l : List ℕ). p ∷ drop 1 l) is ∙ sym is in
          let t2 : State = given t (answered config (take p h) call) in
          record {
            last = p;
            rises = all.1;
            state = t2;
            after = subst (λ (l : List ℕ). After config h p r.sent r.state t2 (IsStopCause config h r.state.subs l e)) places (leads.1 p all.0 (rises_bound p ps (length h) all.1));
            is = refl;
            sent = refl;
            seen = omega arith;
          }

  step : (r : Course) (last : ℕ) (flowing : Flowing config h last r.sent r.state) → Rises last r.places (length h) → last ≤ r.reach → (e : Event)
      → Stepped r (asked config n h (moment_of e) r (takes r.state e).state (takes r.state e).call) e
  unfolding takes
  step r last flowing rises seen e = asked_stepped r last flowing rises seen e (taken r.state e).state (taken r.state e).call (event_leads r last flowing e)

  -- ---- what holds for every course

  pub record Kept (r : Course) : Type 0 where
    pub last : ℕ
    pub rises : Rises last r.places (length h)
    pub seen : last ≤ r.reach
    pub flows : is_spent_course r ≡ false → Flowing config h last r.sent r.state

  flowing_after : (r t : Course) (e : Event) (x : Stepped r t e) → is_spent_course t ≡ false → Flowing config h x.last t.sent t.state
  flowing_after r t e x live =
      let a = x.after in
      let alive : is_spent_phase x.state.phase ≡ false = ap (λ (y : State). is_spent_phase y.phase) (sym x.is) ∙ live in
      let subs : t.state.subs ≡ x.state.subs = ap (λ (y : State). y.subs) x.is in
      record {
        same_config = ap (λ (y : State). y.config) x.is ∙ a.same_config;
        keeps = subst (Keeps config x.last) (sym subs) a.keeps;
        top = rises_bound x.last t.places (length h) x.rises;
        out = ap (λ (y : State). y.out) x.is;
        flows = λ c. subst (λ (v : Subbed). Flow h v c (heard c t.sent)) (sym subs) (subst (λ (l : List Outgoing). Flow h x.state.subs c (heard c l)) (sym x.sent) (a.flows alive c));
      }

  after_event : Course → Event → Course
  after_event r e = asked config n h (moment_of e) r (takes r.state e).state (takes r.state e).call

  reach_stays : (r : Course) (e : Event) → is_spent_course r ≡ true → (after_event r e).reach ≡ r.reach
  unfolding after_event takes
  reach_stays r e spent = by r.state.phase refl
    where
      by : (p : Phase) → r.state.phase ≡ p → (asked config n h (moment_of e) r (by_phase p (arrived r.state.last_id e) r.state).state (by_phase p (arrived r.state.last_id e) r.state).call).reach ≡ r.reach
      by (phase.Live l) f = absurd (false≢true (sym (ap is_spent_phase f) ∙ spent))
      by (phase.Ended x) f = refl

  places_stay : (r : Course) (e : Event) → is_spent_course r ≡ true → (after_event r e).places ≡ r.places
  unfolding after_event takes
  places_stay r e spent = by r.state.phase refl
    where
      by : (p : Phase) → r.state.phase ≡ p → (asked config n h (moment_of e) r (by_phase p (arrived r.state.last_id e) r.state).state (by_phase p (arrived r.state.last_id e) r.state).call).places ≡ r.places
      by (phase.Live l) f = absurd (false≢true (sym (ap is_spent_phase f) ∙ spent))
      by (phase.Ended x) f = refl

  kept_event : (r : Course) (e : Event) → Kept r → (b : Bool) → is_spent_course r ≡ b → Kept (after_event r e)
  unfolding after_event
  kept_event r e k true spent = record {
    last = k.last;
    rises = subst (λ (l : List ℕ). Rises k.last l (length h)) (sym (places_stay r e spent)) k.rises;
    seen = let f = reach_stays r e spent in let g = k.seen in omega (arith, f, g);
    flows = λ live. absurd (false≢true (sym live ∙ ended_stays config n h r e spent));
  }
  kept_event r e k false alive =
      let x : Stepped r (after_event r e) e = step r k.last (k.flows alive) k.rises k.seen e in
      record { last = x.last; rises = x.rises; seen = x.seen; flows = λ live. flowing_after r (after_event r e) e x live }

  pub kept_step : (short : Bool) (r : Course) (e : Event) → Kept r → Kept (happens_unless config n h short r e)
  unfolding after_event
  kept_step true r e k = k
  kept_step false r e k = kept_event r e k (is_spent_course r) refl

  kept_from : (r : Course) (es : List Event) → Kept r → Kept (run_from config n h r es)
  kept_from r [] k = k
  kept_from r (e ∷ es) k = kept_from (happens config n h r e) es (kept_step r.short r e k)

  pub kept_first : (places : List ℕ) → Rises 0 places (length h) → Kept (first_course config n places)
  kept_first places rises = record {
    last = 0;
    rises = rises;
    seen = omega arith;
    flows = λ live. record {
      same_config = refl;
      keeps = record { pending = refl; within = omega arith; apart = tt; known = tt };
      top = rises_bound 0 places (length h) rises;
      out = refl;
      flows = λ c. record { told = refl; part = refl };
    };
  }

  pub kept_run : (places : List ℕ) (es : List Event) → Rises 0 places (length h) → Kept (run config n h places es)
  kept_run places es rises = kept_from (first_course config n places) es (kept_first places rises)

  -- a session that has ids left had them before, and is between two events with nothing left to send
  pub alive_before : (places : List ℕ) (es : List Event) (e : Event) → is_spent_course (run config n h places (es ++ e ∷ [])) ≡ false → is_spent_course (run config n h places es) ≡ false
  alive_before places es e live =
      let r : Course = run config n h places es in
      false_from_ne_true (is_spent_course r) (λ spent. false≢true (sym live ∙ ap is_spent_course (run_snoc config n h (first_course config n places) es e) ∙ spent_stays config n h r.short r e spent))

  pub stands : (places : List ℕ) (es : List Event) → Rises 0 places (length h) → is_spent_course (run config n h places es) ≡ false
      → ((run config n h places es).state.out ≡ []) × ((run config n h places es).state.subs.pending ≡ [])
  stands places es rises live = let f = (kept_run places es rises).flows live in (f.out, f.keeps.pending)

  -- ---- the laws, of any course

  pub course_streams : (r : Course) → Kept r → is_spent_course r ≡ false → (c : ℤ) → ((heard c r.sent).told ≡ owed h r.state.subs c) × ((heard c r.sent).part ≡ [])
  course_streams r k live c =
      let f = k.flows live in
      ((f.flows c).told ∙ owed_is config h k.last r.state.subs c f.keeps f.top, (f.flows c).part)

  abbrev StopsLaw : Course → Course → Event → Type 0
  StopsLaw r t e = (c : ℤ) → IsStopped (Causes r e) (sub_of c r.state.subs.subs) (sub_of c t.state.subs.subs) (heard c r.sent).told (heard c r.sent).stops (heard c t.sent).stops

  stepped_stops : (r t : Course) (e : Event) → Stepped r t e → is_spent_course t ≡ false → StopsLaw r t e
  stepped_stops r t e x live c =
      let alive : is_spent_phase x.state.phase ≡ false = ap (λ (y : State). is_spent_phase y.phase) (sym x.is) ∙ live in
      subst (λ (v : Subbed). IsStopped (Causes r e) (sub_of c r.state.subs.subs) (sub_of c v.subs) (heard c r.sent).told (heard c r.sent).stops (heard c t.sent).stops) (sym (ap (λ (y : State). y.subs) x.is))
      (subst (λ (l : List Outgoing). IsStopped (Causes r e) (sub_of c r.state.subs.subs) (sub_of c x.state.subs.subs) (heard c r.sent).told (heard c r.sent).stops (heard c l).stops) (sym x.sent) (x.after.stops alive c))

  pub course_stops : (short : Bool) (r : Course) (e : Event) → Kept r → is_spent_course (happens_unless config n h short r e) ≡ false → StopsLaw r (happens_unless config n h short r e) e
  course_stops true r e k live c = stopped_same (Causes r e) (sub_of c r.state.subs.subs) (sub_of c r.state.subs.subs) (heard c r.sent).told (heard c r.sent).stops (heard c r.sent).stops refl refl
  course_stops false r e k live c =
      let alive : is_spent_course r ≡ false = false_from_ne_true (is_spent_course r) (λ spent. false≢true (sym live ∙ ended_stays config n h r e spent)) in
      stepped_stops r (asked config n h (moment_of e) r (takes r.state e).state (takes r.state e).call) e (step r k.last (k.flows alive) k.rises k.seen e) live c

  -- what used up ids leave of an event
  stepped_cut : (r t : Course) (e : Event) → Stepped r t e → is_spent_course t ≡ true → IsCut config h r e t.state.subs t.sent
  stepped_cut r t e x spent =
      let ended : is_spent_phase x.state.phase ≡ true = ap (λ (y : State). is_spent_phase y.phase) (sym x.is) ∙ spent in
      subst (λ (v : Subbed). IsCut config h r e v t.sent) (sym (ap (λ (y : State). y.subs) x.is))
      (subst (λ (l : List Outgoing). IsCut config h r e x.state.subs l) (sym x.sent) (λ c. (x.after.fronts ended c, x.after.cuts ended c)))

  pub course_cut : (short : Bool) (r : Course) (e : Event) → Kept r → is_spent_course r ≡ false → is_spent_course (happens_unless config n h short r e) ≡ true
      → IsCut config h r e (happens_unless config n h short r e).state.subs (happens_unless config n h short r e).sent
  course_cut true r e k alive spent = absurd (false≢true (sym alive ∙ spent))
  course_cut false r e k alive spent =
      stepped_cut r (asked config n h (moment_of e) r (takes r.state e).state (takes r.state e).call) e (step r k.last (k.flows alive) k.rises k.seen e) spent

  -- ---- the event that uses up the ids

  -- nothing changes any more
  pub record IsSame (r t : Course) : Type 0 where
    pub sent : t.sent ≡ r.sent
    pub subs : t.state.subs ≡ r.state.subs
    pub out : t.state.out ≡ []

  spent_one : (short : Bool) (r : Course) (e : Event) → is_spent_course r ≡ true → r.state.out ≡ [] → IsSame r (happens_unless config n h short r e)
  unfolding takes
  spent_one true r e spent none = record { sent = refl; subs = refl; out = none }
  spent_one false r e spent none = by r.state.phase refl
    where
      by : (p : Phase) → r.state.phase ≡ p → IsSame r (asked config n h (moment_of e) r (by_phase p (arrived r.state.last_id e) r.state).state (by_phase p (arrived r.state.last_id e) r.state).call)
      by (phase.Live l) f = absurd (false≢true (sym (ap is_spent_phase f) ∙ spent))
      by (phase.Ended x) f = record { sent = ap (λ (l : List Outgoing). r.sent ++ l) none ∙ append-nil r.sent; subs = refl; out = refl }

  pub spent_same : (r : Course) (es : List Event) → is_spent_course r ≡ true → r.state.out ≡ [] → IsSame r (run_from config n h r es)
  spent_same r [] spent none = record { sent = refl; subs = refl; out = none }
  spent_same r (e ∷ es) spent none =
      let one : IsSame r (happens config n h r e) = spent_one r.short r e spent none in
      let rest : IsSame (happens config n h r e) (run_from config n h (happens config n h r e) es) = spent_same (happens config n h r e) es (spent_stays config n h r.short r e spent) one.out in
      record { sent = rest.sent ∙ one.sent; subs = rest.subs ∙ one.subs; out = rest.out }

  answered_out : (at : ℤ) (r : Course) (t : State) (call : StoreCall) (ps : List ℕ) → (answered_at config n h at r t call ps).state.out ≡ []
  answered_out at r t call [] = refl
  answered_out at r t call (p ∷ ps) = refl

  asked_out : (at : ℤ) (r : Course) (t : State) (o : Option StoreCall) → (asked config n h at r t o).state.out ≡ []
  asked_out at r t None = refl
  asked_out at r t (Some call) = answered_out at r t call r.places

  pub event_out : (short : Bool) (r : Course) (e : Event) → r.state.out ≡ [] → (happens_unless config n h short r e).state.out ≡ []
  event_out true r e none = none
  event_out false r e none = asked_out (moment_of e) r (takes r.state e).state (takes r.state e).call

  -- the events up to the one that used them up
  record SpentAt (r : Course) (es : List Event) : Type 0 where
    before : List Event
    e : Event
    later : List Event
    split : es ≡ before ++ e ∷ later
    alive : is_spent_course (run_from config n h r before) ≡ false
    cut : IsCut config h (run_from config n h r before) e (run_from config n h r es).state.subs (run_from config n h r es).sent

  spent_at : (r : Course) (es : List Event) → Kept r → is_spent_course r ≡ false → is_spent_course (run_from config n h r es) ≡ true → SpentAt r es
  spent_at r [] k alive spent = absurd (false≢true (sym alive ∙ spent))
  spent_at r (e ∷ es) k alive spent = by (is_spent_course (happens config n h r e)) refl (λ still. spent_at (happens config n h r e) es (kept_step r.short r e k) still spent)
    where
      by : (b : Bool) → is_spent_course (happens config n h r e) ≡ b → (is_spent_course (happens config n h r e) ≡ false → SpentAt (happens config n h r e) es) → SpentAt r (e ∷ es)
      by true f rest =
          let same : IsSame (happens config n h r e) (run_from config n h (happens config n h r e) es) = spent_same (happens config n h r e) es f (event_out r.short r e (k.flows alive).out) in
          record {
            before = [];
            e = e;
            later = es;
            split = refl;
            alive = alive;
            cut =
                subst (λ (v : Subbed). IsCut config h r e v (run_from config n h r (e ∷ es)).sent) (sym same.subs)
                (subst (λ (l : List Outgoing). IsCut config h r e (happens config n h r e).state.subs l) (sym same.sent) (course_cut r.short r e k alive f));
          }
      by false f rest =
          let x : SpentAt (happens config n h r e) es = rest f in
          record { before = e ∷ x.before; e = x.e; later = x.later; split = ap (λ (l : List Event). e ∷ l) x.split; alive = x.alive; cut = x.cut }

  -- ---- polls that ask nothing

  heeded_at : (r : Course) (es later : List Event) (e : Event) → HeedsFrom config n h r (es ++ e ∷ later) → IsHeeded (run_from config n h r es).reach e
  heeded_at r [] later e all = all.0
  heeded_at r (x ∷ es) later e all = heeded_at (happens config n h r x) es later e all.1

  -- a poll that asks nothing reports no more than the cursor
  no_news : (s : State) (c : ℤ) (x : Sub) (front : ℕ) → sub_of c s.subs.subs ≡ Some x → (on_poll (news_call s.subs front) s).call ≡ None → front ≤ s.subs.cursor
  no_news s c x front found none = by s.subs.subs found none
    where
      tested : (b : Bool) → nat_lt s.subs.cursor front ≡ b → (on_poll (if b then Some (call.News s.subs.cursor s.subs.subs) else None) s).call ≡ None → front ≤ s.subs.cursor
      tested true e f = absurd (none-some (call.News s.subs.cursor s.subs.subs) (sym f))
      tested false e f = grind (arith, nat_tests, e)

      by : (xs : List Sub) → sub_of c xs ≡ Some x → (on_poll (news_from s.subs.subs front (cursor_with xs s.subs.cursor)) s).call ≡ None → front ≤ s.subs.cursor
      by [] e f = absurd (none-some x e)
      by (y ∷ ys) e f = tested (nat_lt s.subs.cursor front) refl f

  idle : (r : Course) (k : Kept r) (front : ℕ) (live : Live) → r.state.phase ≡ phase.Live live → r.reach ≤ front → (takes r.state (Polls front)).call ≡ None → (c : ℤ) (s : Sub) → sub_of c r.state.subs.subs ≡ Some s
      → (front ≡ r.reach) × ((heard c r.sent).told ≡ stream s.channel s.start s.all s.from (take front h))
  unfolding takes
  idle r k front live is heeds none c s found =
      let alive : is_spent_course r ≡ false = ap is_spent_phase is in
      let f = k.flows alive in
      let quiet : (on_poll (news_call r.state.subs front) r.state).call ≡ None = subst (λ (p : Phase). (by_phase p (arrives.Polled front) r.state).call ≡ None) is none in
      let low : front ≤ r.state.subs.cursor = no_news r.state c s front found quiet in
      let within = f.keeps.within in
      let seen = k.seen in
      let at = (known_of (IsKnown config k.last) c r.state.subs.subs s found f.keeps.known).0 in
      let most : max s.from r.state.subs.cursor ≡ front = omega (arith, low, within, seen, at, heeds) in (
        omega (arith, low, within, seen, heeds),
        (course_streams r k alive c).0 ∙ ap (owed_to h r.state.subs.cursor) found ∙ ap (λ u. stream s.channel s.start s.all s.from (take u h)) most,
      )

-- ---- the laws

module _ (stay : NewsStayWithin) (due : NewsAreTheDue) (each : NewsOfEach) where
  module _ (config : Config) (n : ℕ) (h : List Entry) (places : List ℕ) (small : HasIds config) (rises : Rises 0 places (length h)) where
    has_told : (es : List Event) → HasTold config n h places es
    has_told es live channel = course_streams config n h small stay due each (run config n h places es) (kept_run config n h small stay due each places es rises) live channel

    has_stopped : (es : List Event) (e : Event) → HasStopped config n h places es e
    has_stopped es e live channel =
        let r : Course = run config n h places es in
        subst (λ (t : Course). is_spent_course t ≡ false
        → IsStopped (IsStopCause config h r.state.subs r.places e) (sub_of channel r.state.subs.subs) (sub_of channel t.state.subs.subs) (heard channel r.sent).told (heard channel r.sent).stops (heard channel t.sent).stops)
        (sym (run_snoc config n h (first_course config n places) es e))
        (λ alive. course_stops config n h small stay due each r.short r e (kept_run config n h small stay due each places es rises) alive channel) live

    has_spent : (es : List Event) → HasSpent config n h places es
    has_spent es spent =
        let first : Course = first_course config n places in
        let x = spent_at config n h small stay due each first es (kept_first config n h small stay due each places rises) refl spent in
        (x.before, x.e, x.later, x.split, x.alive, λ channel. x.cut channel)

  pub run_is_streamed : RunIsStreamed
  run_is_streamed config n h places es small rises = record {
    told = λ before later is. has_told config n h places small rises before;
    stops = λ before later e is. has_stopped config n h places small rises before e;
    spent = has_spent config n h places small rises es;
  }

  pub run_is_told_at_idle : RunIsToldAtIdle
  run_is_told_at_idle config n h places es small rises heeds before later front split live is none channel s found =
      idle config n h small stay due each (run config n h places before) (kept_run config n h small stay due each places before rises) front live is
      (heeded_at config n h small stay due each (first_course config n places) before later (Polls front) (subst (Heeds config n h places) split heeds)) none channel s found
