-- A run over a longer history, with more places, and with one more event; and what is played on one thread is a run; for the crates above too.
use Rattle.std.specs.Prelude.{ℕ, ℤ, Bool, true, false, List, [], ◌∷◌, ◌++◌, ◌≡◌, ◌+◌, ◌≤◌, Option, Some, None, take, length, refl, fold}
use Rattle.std.proofs.Common.{ap, sym, ◌∙◌, subst, append_assoc, append-nil}
use Rattle.std.proofs.lemmas.List.{take-append-le, take_at}
use mathlib.Core.List.{IsPrefix}
use Rattle.server_config.specs.declared.config.Config.{Config}
use Rattle.store_machine.specs.declared.journal.Entry.{Entry}
use Rattle.store_machine.specs.declared.call.StoreCall.{StoreCall}
use Rattle.store_machine.specs.Answers.{answered, added}
use Rattle.session_core.specs.declared.state.Outgoing.{Outgoing}
use Rattle.session_core.specs.State.{State}
use Rattle.session_core.specs.Arriving.{Event}
use Rattle.session_core.specs.Run.{takes, hears, drained, moment_of, at_place, Course, tells, own_number, IsHeeded, answered_at, asked, happens_unless, happens, run_from, run, HeedsFrom, first_course, first_played, Played, played_call, Step, plays, played, events_of, course_of, AllWithin, RunIsSame, PlayIsRun, RunGoesOn}

take_longer : (old new : List Entry) (p : ℕ) → IsPrefix old new → p ≤ length old → take p new ≡ take p old
take_longer old new p pre le = ap (take p) (sym pre.1) ∙ take-append-le p old pre.0 le

-- a course by its parts, which has not stopped short
abbrev pub course : State → List ℕ → List Outgoing → List (ℕ × Entry) → ℕ → Course
course s places xs made reach = record { state = s; places = places; sent = xs; made = made; short = false; reach = reach }

-- the same course with more places after it
abbrev more : List ℕ → Course → Course
more q c = record c { places = c.places ++ q }

module _ (config : Config) (n : ℕ) where
  -- ---- one more event
  pub run_snoc : (h : List Entry) (c : Course) (es : List Event) (e : Event) → run_from config n h c (es ++ e ∷ []) ≡ happens config n h (run_from config n h c es) e
  run_snoc h c [] e = refl
  run_snoc h c (x ∷ es) e = run_snoc h (happens config n h c x) es e

  heeds_snoc : (h : List Entry) (c : Course) (es : List Event) (e : Event) → HeedsFrom config n h c es → IsHeeded (run_from config n h c es).reach e → HeedsFrom config n h c (es ++ e ∷ [])
  heeds_snoc h c [] e all last = (last, tt)
  heeds_snoc h c (x ∷ es) e all last = (all.0, heeds_snoc h (happens config n h c x) es e all.1 last)

  -- ---- a longer history
  answered_longer : (old new : List Entry) → IsPrefix old new → (at : ℤ) (c : Course) (s : State) (call : StoreCall) (places : List ℕ) → AllWithin (length old) places
      → answered_at config n new at c s call places ≡ answered_at config n old at c s call places
  answered_longer old new pre at c s call [] w = refl
  answered_longer old new pre at c s call (p ∷ ps) w =
      ap (λ (l : List Entry). tells c (hears s (answered config l call)) ps (c.made ++ at_place p (added config l n (own_number c.made) at call)) (p + length (added config l n (own_number c.made) at call)))
      (take_longer old new p pre w.0)

  asked_longer : (old new : List Entry) → IsPrefix old new → (at : ℤ) (c : Course) (s : State) (call : Option StoreCall) → AllWithin (length old) c.places
      → asked config n new at c s call ≡ asked config n old at c s call
  asked_longer old new pre at c s None w = refl
  asked_longer old new pre at c s (Some call) w = answered_longer old new pre at c s call c.places w

  happens_longer : (old new : List Entry) → IsPrefix old new → (short : Bool) (c : Course) (e : Event) → AllWithin (length old) c.places
      → happens_unless config n new short c e ≡ happens_unless config n old short c e
  happens_longer old new pre true c e w = refl
  happens_longer old new pre false c e w = asked_longer old new pre (moment_of e) c (takes c.state e).state (takes c.state e).call w

  answered_within : (h : List Entry) (k : ℕ) (at : ℤ) (c : Course) (s : State) (call : StoreCall) (places : List ℕ) → AllWithin k places → AllWithin k (answered_at config n h at c s call places).places
  answered_within h k at c s call [] w = tt
  answered_within h k at c s call (p ∷ ps) w = w.1

  asked_within : (h : List Entry) (k : ℕ) (at : ℤ) (c : Course) (s : State) (call : Option StoreCall) → AllWithin k c.places → AllWithin k (asked config n h at c s call).places
  asked_within h k at c s None w = w
  asked_within h k at c s (Some call) w = answered_within h k at c s call c.places w

  happens_within : (h : List Entry) (k : ℕ) (short : Bool) (c : Course) (e : Event) → AllWithin k c.places → AllWithin k (happens_unless config n h short c e).places
  happens_within h k true c e w = w
  happens_within h k false c e w = asked_within h k (moment_of e) c (takes c.state e).state (takes c.state e).call w

  run_longer : (old new : List Entry) → IsPrefix old new → (c : Course) (es : List Event) → AllWithin (length old) c.places → run_from config n new c es ≡ run_from config n old c es
  run_longer old new pre c [] w = refl
  run_longer old new pre c (e ∷ es) w =
      ap (λ (d : Course). run_from config n new d es) (happens_longer old new pre c.short c e w)
      ∙ run_longer old new pre (happens config n old c e) es (happens_within old (length old) c.short c e w)

  heeds_longer : (old new : List Entry) → IsPrefix old new → (c : Course) (es : List Event) → AllWithin (length old) c.places → HeedsFrom config n old c es → HeedsFrom config n new c es
  heeds_longer old new pre c [] w all = tt
  heeds_longer old new pre c (e ∷ es) w all = (
    all.0,
    subst (λ (d : Course). HeedsFrom config n new d es) (sym (happens_longer old new pre c.short c e w))
        (heeds_longer old new pre (happens config n old c e) es (happens_within old (length old) c.short c e w) all.1),
  )

  -- ---- more places

  -- a run that has stopped short stays so
  short_stays : (h : List Entry) (c : Course) (es : List Event) → c.short ≡ true → (run_from config n h c es).short ≡ true
  short_stays h c [] is = is
  short_stays h c (e ∷ es) is = short_stays h (happens config n h c e) es (ap (λ (b : Bool). (happens_unless config n h b c e).short) is ∙ is)

  not_short_if : (h : List Entry) (c : Course) (es : List Event) (b : Bool) → c.short ≡ b → (run_from config n h c es).short ≡ false → b ≡ false
  not_short_if h c es true is fed = sym (short_stays h c es is) ∙ fed
  not_short_if h c es false is fed = refl

  not_short : (h : List Entry) (c : Course) (es : List Event) → (run_from config n h c es).short ≡ false → c.short ≡ false
  not_short h c es fed = not_short_if h c es c.short refl fed

  answered_more : (h : List Entry) (q : List ℕ) (at : ℤ) (c : Course) (s : State) (call : StoreCall) (places : List ℕ) → (answered_at config n h at c s call places).short ≡ false
      → answered_at config n h at (more q c) s call (places ++ q) ≡ more q (answered_at config n h at c s call places)
  answered_more h q at c s call [] fed = absurd cc
  answered_more h q at c s call (p ∷ ps) fed = refl

  asked_more : (h : List Entry) (q : List ℕ) (at : ℤ) (c : Course) (s : State) (call : Option StoreCall) → (asked config n h at c s call).short ≡ false
      → asked config n h at (more q c) s call ≡ more q (asked config n h at c s call)
  asked_more h q at c s None fed = refl
  asked_more h q at c s (Some call) fed = answered_more h q at c s call c.places fed

  happens_more : (h : List Entry) (q : List ℕ) (short : Bool) (c : Course) (e : Event) → (happens_unless config n h short c e).short ≡ false
      → happens_unless config n h short (more q c) e ≡ more q (happens_unless config n h short c e)
  happens_more h q true c e fed = refl
  happens_more h q false c e fed = asked_more h q (moment_of e) c (takes c.state e).state (takes c.state e).call fed

  run_more : (h : List Entry) (q : List ℕ) (c : Course) (es : List Event) → (run_from config n h c es).short ≡ false → run_from config n h (more q c) es ≡ more q (run_from config n h c es)
  run_more h q c [] fed = refl
  run_more h q c (e ∷ es) fed =
      ap (λ (d : Course). run_from config n h d es) (happens_more h q c.short c e (not_short h (happens config n h c e) es fed))
      ∙ run_more h q (happens config n h c e) es fed

  heeds_more : (h : List Entry) (q : List ℕ) (c : Course) (es : List Event) → (run_from config n h c es).short ≡ false → HeedsFrom config n h c es → HeedsFrom config n h (more q c) es
  heeds_more h q c [] fed all = tt
  heeds_more h q c (e ∷ es) fed all = (
    all.0,
    subst (λ (d : Course). HeedsFrom config n h d es) (sym (happens_more h q c.short c e (not_short h (happens config n h c e) es fed)))
        (heeds_more h q (happens config n h c e) es fed all.1),
  )

pub run_is_same : RunIsSame
run_is_same config n old new places es pre w =
    (run_longer config n old new pre (first_course config n places) es w, heeds_longer config n old new pre (first_course config n places) es w)

pub run_goes_on : RunGoesOn
run_goes_on config n old new places q es e s sent made reach pre w is =
    let r : Course = record { state = s; places = []; sent = sent; made = made; short = false; reach = reach } in
    let c : Course = first_course config n places in
    let now : run_from config n new c es ≡ r = run_longer config n old new pre c es w ∙ is in
    let fed : (run_from config n new c es).short ≡ false = ap (λ (d : Course). d.short) now in
    let all : run_from config n new (more q c) es ≡ more q r = run_more config n new q c es fed ∙ ap (more q) now in (
      run_snoc config n new (more q c) es e ∙ ap (λ (d : Course). happens config n new d e) all,
      λ heeds last. heeds_snoc config n new (more q c) es e (heeds_more config n new q c es fed (heeds_longer config n old new pre c es w heeds))
          (subst (λ (d : Course). IsHeeded d.reach e) (sym all) last),
    )

-- ---- on one thread
abbrev play : State → List Entry → List ℕ → List Outgoing → List (ℕ × Entry) → ℕ → Played
play s h ms xs made reach = record { state = s; history = h; marks = ms; sent = xs; made = made; reach = reach }

module _ (config : Config) (n : ℕ) where
  -- what these steps lead to is a run over the history that they lead to
  record Follows (s : State) (h : List Entry) (ms : List ℕ) (xs : List Outgoing) (made : List (ℕ × Entry)) (reach : ℕ) (steps : List Step) : Type 0 where
    places : List ℕ
    later : List Entry
    marks : (fold (plays config n) (play s h ms xs made reach) steps).marks ≡ ms ++ places
    history : (fold (plays config n) (play s h ms xs made reach) steps).history ≡ h ++ later
    same : run_from config n (h ++ later) (course s places xs made reach) (events_of steps) ≡ course_of (fold (plays config n) (play s h ms xs made reach) steps)

  abbrev Goes : List Step → Type 0
  Goes steps = (s : State) (h : List Entry) (ms : List ℕ) (xs : List Outgoing) (made : List (ℕ × Entry)) (reach : ℕ) → Follows s h ms xs made reach steps

  -- the same once an event has led to the state t and a call
  abbrev after : State → List Entry → List ℕ → List Outgoing → List (ℕ × Entry) → ℕ → List Entry → ℤ → List Step → State → Option StoreCall → Played
  after s h ms xs made reach others at steps t call = fold (plays config n) (played_call config n at (play s h ms xs made reach) (h ++ others) t call) steps

  record Nexts (s : State) (h : List Entry) (ms : List ℕ) (xs : List Outgoing) (made : List (ℕ × Entry)) (reach : ℕ) (others : List Entry) (at : ℤ) (steps : List Step) (t : State) (call : Option StoreCall) : Type 0 where
    places : List ℕ
    later : List Entry
    marks : (after s h ms xs made reach others at steps t call).marks ≡ ms ++ places
    history : (after s h ms xs made reach others at steps t call).history ≡ h ++ later
    same : run_from config n (h ++ later) (asked config n (h ++ later) at (course s places xs made reach) t call) (events_of steps) ≡ course_of (after s h ms xs made reach others at steps t call)

  nexts : (s : State) (h : List Entry) (ms : List ℕ) (xs : List Outgoing) (made : List (ℕ × Entry)) (reach : ℕ) (others : List Entry) (at : ℤ) (steps : List Step) → Goes steps → (t : State) (call : Option StoreCall)
      → Nexts s h ms xs made reach others at steps t call
  nexts s h ms xs made reach others at steps ih t None =
      let r = ih (drained t) (h ++ others) ms (xs ++ t.out) made reach in
      record {
        places = r.places;
        later = others ++ r.later;
        marks = r.marks;
        history = r.history ∙ append_assoc h others r.later;
        same = ap (λ x. run_from config n x (course (drained t) r.places (xs ++ t.out) made reach) (events_of steps)) (sym (append_assoc h others r.later)) ∙ r.same;
      }
  nexts s h ms xs made reach others at steps ih t (Some call) =
      let front = h ++ others in
      let entries = added config front n (own_number made) at call in
      let u = hears t (answered config front call) in
      let r = ih (drained u) (front ++ entries) (ms ++ length front ∷ []) (xs ++ u.out) (made ++ at_place (length front) entries) (length front + length entries) in
      let rest = entries ++ r.later in
      let c : Course = course s (length front ∷ r.places) xs made reach in
      let F : List Entry → Course = λ x. run_from config n x (asked config n x at c t (Some call)) (events_of steps) in
      let G : List Entry → Course = λ x. run_from config n (front ++ rest)
      (tells c (hears t (answered config x call)) r.places (made ++ at_place (length front) (added config x n (own_number made) at call)) (length front + length (added config x n (own_number made) at call))) (events_of steps) in
      record {
        places = length front ∷ r.places;
        later = others ++ rest;
        marks = r.marks ∙ append_assoc ms (length front ∷ []) r.places;
        history = r.history ∙ append_assoc front entries r.later ∙ append_assoc h others rest;
        same = ap F (sym (append_assoc h others rest)) ∙ ap G (take_at front rest (length front) refl)
            ∙ ap (λ x. run_from config n x (course (drained u) r.places (xs ++ u.out) (made ++ at_place (length front) entries) (length front + length entries)) (events_of steps)) (sym (append_assoc front entries r.later)) ∙ r.same;
      }

  follows : (steps : List Step) → Goes steps
  follows [] s h ms xs made reach = record { places = []; later = []; marks = sym (append-nil ms); history = sym (append-nil h); same = refl }
  follows (step ∷ steps) s h ms xs made reach =
      let r = nexts s h ms xs made reach step.others (moment_of step.event) steps (follows steps) (takes s step.event).state (takes s step.event).call in
      record { places = r.places; later = r.later; marks = r.marks; history = r.history; same = r.same }

pub play_is_run : PlayIsRun
play_is_run config n h steps =
    let f = follows config n steps (first_played config n h).state h [] [] [] (n + 1) in
    let r = played config n h steps in
    ap (λ x. run config n x r.marks (events_of steps)) f.history ∙ ap (λ ms. run config n (h ++ f.later) ms (events_of steps)) f.marks ∙ f.same
