-- What each event of a run adds to what was sent.
use Rattle.std.specs.Prelude.{ℕ, Bool, true, false, List, [], ◌∷◌, ◌++◌, ◌≡◌, ◌≤◌, Option, Some, None, drop, length, take, refl}
use Rattle.std.specs.List.{AllByRecursion}
use Rattle.std.proofs.Common.{ap, sym, ◌∙◌, subst, append-nil}
use Rattle.std.proofs.lemmas.List.{length-take-le, take-append-drop}
use mathlib.Core.List.{IsPrefix}
use Rattle.etp_values.proofs.RisingLemmas.{rises_bound}
use Rattle.etp_values.specs.Rising.{Rises}
use Rattle.server_config.specs.declared.config.Config.{Config}
use Rattle.store_machine.specs.Answers.{answered}
use Rattle.store_machine.specs.Laws.{NewsAreTheDue, NewsOfEach, NewsStayWithin}
use Rattle.store_machine.specs.Reads.{whole_room}
use Rattle.store_machine.specs.declared.call.Answer.{Answer}
use Rattle.store_machine.specs.declared.call.StoreCall.{StoreCall}
use Rattle.store_machine.specs.declared.call.StoreCall.TheVariants as call
use Rattle.store_machine.specs.declared.journal.Entry.{Entry}
use Rattle.session_core.specs.declared.state.Outgoing.{Outgoing}
use Rattle.session_core.specs.State.{State}
use Rattle.session_core.specs.Arriving.{Event, arrived}
use Rattle.session_core.specs.Granting.{Aside, Begins, Ends, IsAnsweredAfter, IsMatter, IsReceipt, IsSent, Matter, Stops, SubscriptionsAreReplied, Tells}
use Rattle.session_core.specs.Machine.{given, taken, unread}
use Rattle.session_core.specs.Run.{Course, answered_at, asked, first_course, happens, happens_unless, hears, moment_of, run, takes}
use Rattle.session_core.specs.Streams.{is_spent_course}
use Rattle.session_laws.proofs.DecidingLemmas.{are_fair}
use Rattle.session_laws.proofs.ReplyingLemmas.{IsBy, IsFair, Leads, phase_leads, silent_says}
use Rattle.session_core.proofs.RunLemmas.{run_snoc}
use Rattle.session_core.proofs.StreamingLemmas.{alive_before, kept_run, stands}
use Rattle.session_core.proofs.SubscribingLemmas.{started_answer}
use Rattle.session_core.proofs.ArrivalLemmas.{arrival_of}

-- ---- what the store answers

fair_answer : (config : Config) (h : List Entry) (c : StoreCall) → IsFair (Some h) c (answered config h c)
fair_answer config h (call.Subscribe asks) = subst (IsFair (Some h) (call.Subscribe asks)) (sym (started_answer config h asks)) (refl, are_fair config h whole_room asks)
fair_answer config h _ = tt

-- the entries by which the store answers, if a place is left
abbrev known_at : List Entry → List ℕ → Option (List Entry)
known_at h [] = None
known_at h (p ∷ ps) = Some (take p h)

-- where a request for subscriptions was answered
answered_after : (h : List Entry) (last : ℕ) (places : List ℕ) (m : Matter) → Rises last places (length h) → IsBy (known_at h places) m → IsAnsweredAfter h places m
answered_after h last [] (Begins hd x before decided changes) rises by = absurd (cc by)
answered_after h last (p ∷ ps) (Begins hd x before decided changes) rises by =
    let is : take p h ≡ before = cc by in
    let within : p ≤ length h = rises_bound p ps (length h) rises.1 in
    let long : p ≡ length before = sym (length-take-le p h within) ∙ ap (λ (l : List Entry). length l) is in
    (subst (λ (l : List Entry). IsPrefix l h) is (drop p h, take-append-drop p h), (ps, ap (λ (n : ℕ). n ∷ ps) long))
answered_after h last places (Aside r sayings) rises by = tt
answered_after h last places (Ends hd x decided) rises by = tt
answered_after h last places (Tells changes) rises by = tt
answered_after h last places (Stops lag ids) rises by = tt

-- ---- one event of a run

-- what an event adds to a course
record Adds (e : Event) (known : Option (List Entry)) (r t : Course) : Type 0 where
  matter : Matter
  sent : List Outgoing
  adds : t.sent ≡ r.sent ++ sent
  parts : IsSent matter sent
  means : IsMatter e r.state.subs t.state.subs sent matter
  by : IsBy known matter

module _ (config : Config) (n : ℕ) (h : List Entry) where
  asked_adds : (r : Course) (e : Event) (t : State) (o : Option StoreCall) → Leads e r.state.subs (known_at h r.places) t o → is_spent_course (asked config n h (moment_of e) r t o) ≡ false → Adds e (known_at h r.places) r (asked config n h (moment_of e) r t o)
  unfolding hears
  asked_adds r e t None leads live = let s = leads live in record { matter = s.matter; sent = t.out; adds = refl; parts = s.parts; means = s.means; by = s.by }
  asked_adds r e t (Some call) leads live = by r.places leads live
    where
      by : (ps : List ℕ) → Leads e r.state.subs (known_at h ps) t (Some call) → is_spent_course (answered_at config n h (moment_of e) r t call ps) ≡ false → Adds e (known_at h ps) r (answered_at config n h (moment_of e) r t call ps)
      by [] leads live = let s = silent_says e r.state.subs None t leads.0 in record { matter = s.matter; sent = t.out; adds = refl; parts = s.parts; means = s.means; by = s.by }
      by (p ∷ ps) leads live =
          let a : Answer = answered config (take p h) call in
          let s = leads.1 a (fair_answer config (take p h) call) live in
          record { matter = s.matter; sent = (given t a).out; adds = refl; parts = s.parts; means = s.means; by = s.by }

  event_adds : (r : Course) (e : Event) → r.state.out ≡ [] → r.state.subs.pending ≡ [] → is_spent_course (asked config n h (moment_of e) r (takes r.state e).state (takes r.state e).call) ≡ false
      → Adds e (known_at h r.places) r (asked config n h (moment_of e) r (takes r.state e).state (takes r.state e).call)
  unfolding takes
  event_adds r e out none live =
      asked_adds r e (taken r.state e).state (taken r.state e).call
      (phase_leads e r.state.subs (known_at h r.places) none r.state.phase (arrived r.state.last_id e) r.state (arrival_of r.state.last_id e) (record { subs = refl; out = subst (AllByRecursion IsReceipt) (sym out) tt })) live

  course_adds : (short : Bool) (r : Course) (e : Event) → r.state.out ≡ [] → r.state.subs.pending ≡ [] → is_spent_course (happens_unless config n h short r e) ≡ false → Adds e (known_at h r.places) r (happens_unless config n h short r e)
  course_adds true r e out none live = record {
    matter = Aside unread [];
    sent = [];
    adds = sym (append-nil r.sent);
    parts = record {
      limit = 0;
      number = 0;
      blobs = 0;
      more_blobs = 0;
      first = 0;
      second = 0;
      receipts = [];
      received = tt;
      reaches = refl;
      reaches_changes = refl;
      is = refl;
    };
    means = (refl, tt, tt);
    by = tt;
  }
  course_adds false r e out none live = event_adds r e out none live

-- ---- the law

module _ (stay : NewsStayWithin) (due : NewsAreTheDue) (each : NewsOfEach) where
  pub subscriptions_replied : SubscriptionsAreReplied
  subscriptions_replied config n h places es e small rises live =
      let r : Course = run config n h places es in
      let after : run config n h places (es ++ e ∷ []) ≡ happens config n h r e = run_snoc config n h (first_course config n places) es e in
      let s = stands config n h small stay due each places es rises (alive_before config n h small stay due each places es e live) in
      let k = kept_run config n h small stay due each places es rises in
      let a : Adds e (known_at h r.places) r (happens config n h r e) = course_adds config n h r.short r e s.0 s.1 (sym (ap is_spent_course after) ∙ live) in
      record {
        matter = a.matter;
        sent = a.sent;
        adds = ap (λ (t : Course). t.sent) after ∙ a.adds;
        parts = a.parts;
        means = subst (λ (t : Course). IsMatter e r.state.subs t.state.subs a.sent a.matter) (sym after) a.means;
        answered = answered_after h k.last r.places a.matter k.rises a.by;
      }
