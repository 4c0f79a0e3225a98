-- A session's run continues by an event, whole or cut.
use Rattle.std.proofs.Common.{◌≡◌, ◌≤◌, ◌<◌, ◌+◌, ◌==◌, ℕ, ℤ, pos, Bool, true, false, List, [], ◌∷◌, ◌++◌, length, take, None, Some, IfSome, if◌then◌else◌, refl, ap, sym, ◌∙◌, subst, inl, inr, arith, length-append}
use Rattle.std.proofs.lemmas.List.{append-nil, take_at}
use Rattle.std.specs.declared.option.Option.{Option}
use Rattle.std.specs.List.{AllByRecursion}
use Rattle.store_hub.proofs.ReadingLemmas.{noted_seen}
use mathlib.Core.List.{IsPrefix, prefix-append}
use Rattle.etp_values.proofs.PrefixLemmas.{prefix_self, prefix_trans, prefix_length}
use Rattle.etp_values.proofs.RisingLemmas.{rises_snoc}
use Rattle.server_config.specs.declared.config.Config.{Config}
use Rattle.store_machine.specs.declared.journal.Entry.{Entry}
use Rattle.store_machine.specs.declared.call.StoreCall.{StoreCall}
use Rattle.store_machine.specs.declared.call.Answer.{Answer}
use Rattle.store_machine.specs.Answers.{answered, added, entries_of}
use Rattle.store_machine.specs.Laws.{IsCallAt, OneOrNone, IsEntryOf, EntriesAreTheSessions}
use Rattle.store_machine.proofs.NumberLemmas.{added-one}
use Rattle.etp_values.specs.Rising.{Rises}
use Rattle.turn_book.specs.Lists.{own, own_from}
use Rattle.turn_book.specs.Steps.{hearing}
use Rattle.turn_book.proofs.OwnLemmas.{own_grown}
use Rattle.store_hub.specs.Words.{Known, by_of, enters_of}
use Rattle.store_hub.specs.Notes.{noted, Answers, Refuses}
use Rattle.session_core.specs.Arriving.{Event}
use Rattle.session_core.specs.Run.{takes, hears, drained, moment_of, at_place, Course, tells, own_number, IsHeeded, asked, run, Heeds, AllWithin}
use Rattle.session_core.specs.Session.{end_of}
use Rattle.session_core.specs.State.{State, first_state}
use Rattle.session_core.specs.Streams.{HasIds}
use Rattle.session_core.specs.declared.state.Outgoing.{Outgoing}
use Rattle.etp_serve.specs.Events.{AllOpen}
use Rattle.etp_serve.specs.Laws.{Laws}
use Rattle.etp_serve.specs.Served.{IsEnterAnd, Owns, Ran}
use Rattle.etp_serve.specs.Steps.{Settles, Breaks}
use Rattle.etp_serve.specs.declared.ended.Ended.TheVariants.{NoMemory}

-- ---- places

pub within_all : (low : ℕ) (ps : List ℕ) (high : ℕ) → Rises low ps high → (low ≤ high) × AllWithin high ps
within_all low [] high r = (r, tt)
within_all low (p ∷ ps) high r = let more = within_all p ps high r.1 in ((let x = more.0 in let y = r.0 in omega arith), (more.0, more.1))

-- the entries up to a prefix of a history
take_log : (log new : List Entry) → IsPrefix log new → take (length log) new ≡ log
take_log log new pre = ap (take (length log)) (sym pre.1) ∙ take_at log pre.0 (length log) refl

-- ---- what an answer leaves in what the pass knows

noted_places : (log es : List Entry) (v : Known) → (noted log es v).places ≡ v.places ++ length log ∷ []
noted_places log [] v = refl
noted_places log (e ∷ es) v = refl

noted_heard : (log es : List Entry) (v : Known) → (noted log es v).heard ≡ v.heard
noted_heard log [] v = refl
noted_heard log (e ∷ es) v = refl

-- an answer does not count as a length of the journal for a poll
pub settles_heard : (config : Config) (n nth : ℕ) (at : ℤ) (o : Option StoreCall) (v w : Known) (s t : State) → Settles config n nth at o v w s t → w.heard ≡ v.heard
settles_heard config n nth at None v w s t done = ap (λ (x : Known). x.heard) done.0
settles_heard config n nth at (Some call) v w s t done =
    let ans = done.1 in
    ap (λ (x : Known). x.heard) ans.view ∙ noted_heard ans.log (added config ans.log n nth at call) (record v { missed = ans.missed })

pub breaks_heard : (config : Config) (n nth : ℕ) (at : ℤ) (o : Option StoreCall) (v w : Known) → Breaks config n nth at o v w → w.heard ≡ v.heard
breaks_heard config n nth at None v w broke = absurd broke
breaks_heard config n nth at (Some call) v w (inl no_room) = ap (λ (x : Known). x.heard) no_room.view
breaks_heard config n nth at (Some call) v w (inr done) =
    let ans = done.1 in
    ap (λ (x : Known). x.heard) ans.view ∙ noted_heard ans.log (added config ans.log n nth at call) (record v { missed = ans.missed })

-- ---- the session's own entries

enter_grows : (n : ℕ) (mine now made more : List (ℕ × Entry)) → IsEnterAnd n mine made → now ≡ mine ++ more → IsEnterAnd n now (made ++ more)
enter_grows n mine now made more is grown = record { entry = is.entry; enters = is.enters; all = grown ∙ ap (λ l. l ++ more) is.all }

own_added : (n : ℕ) (log es : List Entry) → OneOrNone es → AllByRecursion (λ e. e.by ≡ n) es → own by_of n (log ++ es) ≡ own by_of n log ++ at_place (length log) es
own_added n log [] one all = ap (own by_of n) (append-nil log) ∙ sym (append-nil (own by_of n log))
own_added n log (e ∷ []) one all = own_grown by_of n log e all.0
own_added n log (e ∷ d ∷ es) one all = absurd one

all_by : (n nth : ℕ) (at : ℤ) (es : List Entry) → AllByRecursion (IsEntryOf n nth at) es → AllByRecursion (λ e. e.by ≡ n) es
all_by n nth at [] all = tt
all_by n nth at (e ∷ es) all = (all.0.0, all_by n nth at es all.1)

added_mine : EntriesAreTheSessions → (config : Config) (h : List Entry) (by nth : ℕ) (at : ℤ) (call : StoreCall) → IsCallAt h call → AllByRecursion (λ e. e.by ≡ by) (added config h by nth at call)
unfolding added
added_mine mine config h by nth at call is = all_by by nth at (entries_of config h by nth at call) (mine config h by nth at call is)

-- how many own entries there are
own_count : (n nth : ℕ) (mine made : List (ℕ × Entry)) → IsEnterAnd n mine made → length mine ≡ nth → nth ≡ own_number made
own_count n nth mine made is count = let long : length mine ≡ length ((n, is.entry) ∷ made) = ap length is.all in omega (arith, long, count)

-- the first own entry is in the history
own_test : (n k : ℕ) (x : Entry) (es : List Entry) (p : ℕ) (e : Entry) (rest : List (ℕ × Entry)) (b : Bool)
    → (own_from by_of n (k + 1) es ≡ (p, e) ∷ rest → p < k + 1 + length es)
    → (if b then (k, x) ∷ own_from by_of n (k + 1) es else own_from by_of n (k + 1) es) ≡ (p, e) ∷ rest → p < k + length (x ∷ es)
own_test n k x es p e rest true later is = let pair : ◌≡◌ {A = ℕ × Entry} (k, x) (p, e) = cc is in let here : k ≡ p = ap (λ (q : ℕ × Entry). q.0) pair in omega (arith, here)
own_test n k x es p e rest false later is = let r = later is in omega arith

own_within : (n k : ℕ) (es : List Entry) (p : ℕ) (e : Entry) (rest : List (ℕ × Entry)) → own_from by_of n k es ≡ (p, e) ∷ rest → p < k + length es
own_within n k [] p e rest is = absurd (cc is)
own_within n k (x ∷ es) p e rest is = own_test n k x es p e rest (x.by == n) (own_within n (k + 1) es p e rest) is

-- the last one may be missing
lacks_last : (n : ℕ) (mine made : List (ℕ × Entry)) (places : List ℕ) (p : ℕ) (es : List Entry) → OneOrNone es → IsEnterAnd n mine made → Owns NoMemory n mine (places ++ p ∷ []) (made ++ at_place p es)
lacks_last n mine made places p [] one is = inl (subst (IsEnterAnd n mine) (sym (append-nil made)) is)
lacks_last n mine made places p (e ∷ []) one is = inr record { kept = made; lost = e; place = p; before = places; made_are = refl; places_are = refl; rest = is }
lacks_last n mine made places p (e ∷ d ∷ es) one is = absurd one

-- ---- a run that memory did not suffice to continue

-- what was sent was sent by the run
pub record Cut (config : Config) (n : ℕ) (v : Known) (es : List Event) (said : List Outgoing) : Type 0 where
  pub places : List ℕ
  pub places_are : v.places ≡ n ∷ places
  pub first : IsPrefix said (run config n v.seen places es).sent
  pub own : Owns NoMemory n (own by_of n v.seen) places (run config n v.seen places es).made
  pub used : (run config n v.seen places es).places ≡ []
  pub rises : Rises (n + 1) places (length v.seen)
  pub before_end : AllOpen config n v.seen places es
  pub heeds : Heeds config n v.seen places es
  pub ids : HasIds config

asked_cut : (config : Config) (n : ℕ) (h : List Entry) (at : ℤ) (s st : State) (said : List Outgoing) (made : List (ℕ × Entry)) (reach : ℕ) (o : Option StoreCall)
    → let d = asked config n h at (record { state = s; places = []; sent = said; made = made; short = false; reach = reach }) st o in
    (d.sent ≡ said ++ st.out) × (d.made ≡ made) × (d.places ≡ [])
asked_cut config n h at s st said made reach None = (refl, refl, refl)
asked_cut config n h at s st said made reach (Some call) = (refl, refl, refl)

module _ (laws : Laws) (config : Config) (n : ℕ) where
  -- no event was run
  pub ran_start : HasIds config → (v : Known) (e : Entry) → v.places ≡ n ∷ [] → own by_of n v.seen ≡ (n, e) ∷ [] → enters_of e ≡ true → Ran config n v [] (first_state config n (pos 1)) []
  ran_start ids v e places mine enters =
      let inside : n < 0 + length v.seen = own_within n 0 v.seen n e [] mine in
      let long : n + 1 ≤ length v.seen = omega arith in
      record {
        places = [];
        made = [];
        reach = n + 1;
        places_are = places;
        run = refl;
        own = record { entry = e; enters = enters; all = mine };
        rises = long;
        before_end = inl refl;
        heeds = tt;
        within = long;
        ids = ids;
      }

  -- the journal's length was found
  pub ran_hears : (v w : Known) (f : ℕ) (es : List Event) (s : State) (said : List Outgoing) → Ran config n v es s said → w ≡ hearing f v → Ran config n w es s said
  ran_hears v w f es s said r is = subst (λ (x : Known). Ran config n x es s said) (sym is) record {
    places = r.places;
    made = r.made;
    reach = r.reach;
    places_are = r.places_are;
    run = r.run;
    own = r.own;
    rises = r.rises;
    before_end = r.before_end;
    heeds = r.heeds;
    within = r.within;
    ids = r.ids;
  }

  -- ---- an event that follows

  module _ (v : Known) (es : List Event) (e : Event) (s : State) (said : List Outgoing) (r : Ran config n v es s said) (going : end_of s.phase ≡ None) (heeded : IsHeeded r.reach e) where
    all_within : AllWithin (length v.seen) r.places
    all_within = (within_all (n + 1) r.places (length v.seen) r.rises).1

    last_open : (new : List Entry) (places rest : List ℕ) → IsPrefix v.seen new → places ≡ r.places ++ rest → AllOpen config n new places (es ++ e ∷ [])
    last_open new places rest pre is = inr record {
      before = es;
      last = e;
      used = r.places;
      rest = rest;
      events_are = refl;
      places_are = is;
      going = ap (λ (c : Course). end_of c.state.phase) ((laws.same config n v.seen new r.places es pre all_within).0 ∙ r.run) ∙ going;
    }

    quiet_run : run config n v.seen r.places (es ++ e ∷ []) ≡ asked config n v.seen (moment_of e) (record { state = s; places = []; sent = said; made = r.made; short = false; reach = r.reach }) (takes s e).state (takes s e).call
    quiet_run =
        ap (λ (l : List ℕ). run config n v.seen l (es ++ e ∷ [])) (sym (append-nil r.places))
        ∙ (laws.next config n v.seen v.seen r.places [] es e s said r.made r.reach (prefix_self v.seen) all_within r.run).0

    quiet_heeds : Heeds config n v.seen r.places (es ++ e ∷ [])
    quiet_heeds =
        subst (λ (l : List ℕ). Heeds config n v.seen l (es ++ e ∷ [])) (append-nil r.places)
        ((laws.next config n v.seen v.seen r.places [] es e s said r.made r.reach (prefix_self v.seen) all_within r.run).1 r.heeds heeded)

    ran_quiet : (takes s e).call ≡ None → Ran config n v (es ++ e ∷ []) (drained (takes s e).state) (said ++ (takes s e).state.out)
    ran_quiet none = record {
      places = r.places;
      made = r.made;
      reach = r.reach;
      places_are = r.places_are;
      run = quiet_run ∙ ap (asked config n v.seen (moment_of e) (record { state = s; places = []; sent = said; made = r.made; short = false; reach = r.reach }) (takes s e).state) none;
      own = r.own;
      rises = r.rises;
      before_end = last_open v.seen r.places [] (prefix_self v.seen) (sym (append-nil r.places));
      heeds = quiet_heeds;
      within = r.within;
      ids = r.ids;
    }

    -- the run with the call's place
    called_run : (log new : List Entry) (call : StoreCall) (nth : ℕ) → (takes s e).call ≡ Some call → nth ≡ own_number r.made → IsPrefix v.seen log → IsPrefix log new
        → run config n new (r.places ++ length log ∷ []) (es ++ e ∷ [])
        ≡ tells (record { state = s; places = length log ∷ []; sent = said; made = r.made; short = false; reach = r.reach }) (hears (takes s e).state (answered config log call)) []
        (r.made ++ at_place (length log) (added config log n nth (moment_of e) call)) (length log + length (added config log n nth (moment_of e) call))
    called_run log new call nth some count before after =
        let c : Course = record { state = s; places = length log ∷ []; sent = said; made = r.made; short = false; reach = r.reach } in
        let at : ℤ = moment_of e in
        (laws.next config n v.seen new r.places (length log ∷ []) es e s said r.made r.reach (prefix_trans v.seen log new before after) all_within r.run).0
        ∙ (ap (asked config n new at c (takes s e).state) some
        ∙ (ap (λ (l : List Entry). tells c (hears (takes s e).state (answered config l call)) [] (r.made ++ at_place (length log) (added config l n (own_number r.made) at call)) (length log + length (added config l n (own_number r.made) at call))) (take_log log new after)
        ∙ ap (λ (k : ℕ). tells c (hears (takes s e).state (answered config log call)) [] (r.made ++ at_place (length log) (added config log n k at call)) (length log + length (added config log n k at call))) (sym count)))

    called_heeds : (log new : List Entry) → IsPrefix v.seen log → IsPrefix log new → Heeds config n new (r.places ++ length log ∷ []) (es ++ e ∷ [])
    called_heeds log new before after =
        (laws.next config n v.seen new r.places (length log ∷ []) es e s said r.made r.reach (prefix_trans v.seen log new before after) all_within r.run).1 r.heeds heeded

    called_rises : (log new : List Entry) → IsPrefix v.seen log → IsPrefix log new → Rises (n + 1) (r.places ++ length log ∷ []) (length new)
    called_rises log new before after = rises_snoc (n + 1) r.places (length v.seen) (length log) (length new) r.rises (prefix_length v.seen log before) (prefix_length log new after)

    -- the pass's places with the call's
    called_places : (w : Known) (log : List Entry) → w.places ≡ v.places ++ length log ∷ [] → w.places ≡ n ∷ (r.places ++ length log ∷ [])
    called_places w log is = is ∙ ap (λ l. l ++ length log ∷ []) r.places_are

    ran_called : (w : Known) (call : StoreCall) (nth : ℕ) (a : Answer) → (takes s e).call ≡ Some call → IsCallAt v.seen call → length (own by_of n v.seen) ≡ nth → Answers config n nth (moment_of e) call v a w
        → Ran config n w (es ++ e ∷ []) (drained (hears (takes s e).state a)) (said ++ (hears (takes s e).state a).out)
    ran_called w call nth a some is_call entries ans =
        let log : List Entry = ans.log in
        let more : List Entry = added config log n nth (moment_of e) call in
        let u : Known = record v { missed = ans.missed } in
        let one : OneOrNone more = added-one laws.one config log n nth (moment_of e) call in
        let later : IsCallAt log call = subst (λ (l : List Entry). IsCallAt l call) ans.before.1 (laws.stay v.seen ans.before.0 call is_call) in
        let seen : w.seen ≡ log ++ more = ap (λ (x : Known). x.seen) ans.view ∙ noted_seen log more u one in
        let after : IsPrefix log (log ++ more) = prefix-append log more in
        let count : nth ≡ own_number r.made = own_count n nth (own by_of n v.seen) r.made r.own entries in
        let grown : own by_of n w.seen ≡ own by_of n v.seen ++ at_place (length log) more =
        ap (own by_of n) seen ∙ (own_added n log more one (added_mine laws.mine config log n nth (moment_of e) call later) ∙ ap (λ l. l ++ at_place (length log) more) ans.own) in
        let long : length w.seen ≡ length log + length more = ap length seen ∙ length-append log more in
        subst (λ (x : Answer). Ran config n w (es ++ e ∷ []) (drained (hears (takes s e).state x)) (said ++ (hears (takes s e).state x).out)) (sym ans.answer) record {
          places = r.places ++ length log ∷ [];
          made = r.made ++ at_place (length log) more;
          reach = length log + length more;
          places_are = called_places w log (ap (λ (x : Known). x.places) ans.view ∙ noted_places log more u);
          run = ap (λ (h : List Entry). run config n h (r.places ++ length log ∷ []) (es ++ e ∷ [])) seen ∙ called_run log (log ++ more) call nth some count ans.before after;
          own = enter_grows n (own by_of n v.seen) (own by_of n w.seen) r.made (at_place (length log) more) r.own grown;
          rises = subst (λ (h : List Entry). Rises (n + 1) (r.places ++ length log ∷ []) (length h)) (sym seen) (called_rises log (log ++ more) ans.before after);
          before_end = subst (λ (h : List Entry). AllOpen config n h (r.places ++ length log ∷ []) (es ++ e ∷ [])) (sym seen)
              (last_open (log ++ more) (r.places ++ length log ∷ []) (length log ∷ []) (prefix_trans v.seen log (log ++ more) ans.before after) refl);
          heeds = subst (λ (h : List Entry). Heeds config n h (r.places ++ length log ∷ []) (es ++ e ∷ [])) (sym seen) (called_heeds log (log ++ more) ans.before after);
          within = omega arith;
          ids = r.ids;
        }

    -- the event was settled
    pub ran_settled : (w : Known) (t : State) (o : Option StoreCall) (nth : ℕ) (at : ℤ) → (takes s e).call ≡ o → IfSome o (IsCallAt v.seen) → length (own by_of n v.seen) ≡ nth → at ≡ moment_of e
        → Settles config n nth at o v w (takes s e).state t → Ran config n w (es ++ e ∷ []) (drained t) (said ++ t.out)
    ran_settled w t None nth at is calls entries now done =
        subst (λ (x : Known). Ran config n x (es ++ e ∷ []) (drained t) (said ++ t.out)) (sym done.0)
        (subst (λ (x : State). Ran config n v (es ++ e ∷ []) (drained x) (said ++ x.out)) (sym done.1) (ran_quiet is))
    ran_settled w t (Some call) nth at is calls entries now done =
        subst (λ (x : State). Ran config n w (es ++ e ∷ []) (drained x) (said ++ x.out)) (sym done.2)
        (ran_called w call nth done.0 is calls entries (subst (λ (m : ℤ). Answers config n nth m call v done.0 w) now done.1))

    -- ---- an event for which memory ran out

    -- to begin it
    pub cut_begun : Cut config n v (es ++ e ∷ []) said
    cut_begun =
        let cut = asked_cut config n v.seen (moment_of e) s (takes s e).state said r.made r.reach (takes s e).call in
        record {
          places = r.places;
          places_are = r.places_are;
          first = ((takes s e).state.out, sym (ap (λ (d : Course). d.sent) quiet_run ∙ cut.0));
          own = inl (subst (IsEnterAnd n (own by_of n v.seen)) (sym (ap (λ (d : Course). d.made) quiet_run ∙ cut.1)) r.own);
          used = ap (λ (d : Course). d.places) quiet_run ∙ cut.2;
          rises = r.rises;
          before_end = last_open v.seen r.places [] (prefix_self v.seen) (sym (append-nil r.places));
          heeds = quiet_heeds;
          ids = r.ids;
        }

    -- for the store to answer its call
    cut_refused : (w : Known) (call : StoreCall) → (takes s e).call ≡ Some call → Refuses n v w → Cut config n w (es ++ e ∷ []) said
    cut_refused w call some no_room =
        let log : List Entry = no_room.log in
        let nth : ℕ = own_number r.made in
        let more : List Entry = added config log n nth (moment_of e) call in
        let u : Known = record v { missed = no_room.missed } in
        let one : OneOrNone more = added-one laws.one config log n nth (moment_of e) call in
        let seen : w.seen ≡ log = ap (λ (x : Known). x.seen) no_room.view in
        let is = ap (λ (h : List Entry). run config n h (r.places ++ length log ∷ []) (es ++ e ∷ [])) seen ∙ called_run log log call nth some refl no_room.before (prefix_self log) in
        let mine : IsEnterAnd n (own by_of n w.seen) r.made = subst (λ l. IsEnterAnd n l r.made) (sym (ap (own by_of n) seen ∙ no_room.own)) r.own in
        record {
          places = r.places ++ length log ∷ [];
          places_are = called_places w log (ap (λ (x : Known). x.places) no_room.view);
          first = ((hears (takes s e).state (answered config log call)).out, sym (ap (λ (d : Course). d.sent) is));
          own = subst (Owns NoMemory n (own by_of n w.seen) (r.places ++ length log ∷ [])) (sym (ap (λ (d : Course). d.made) is)) (lacks_last n (own by_of n w.seen) r.made r.places (length log) more one mine);
          used = ap (λ (d : Course). d.places) is;
          rises = subst (λ (h : List Entry). Rises (n + 1) (r.places ++ length log ∷ []) (length h)) (sym seen) (called_rises log log no_room.before (prefix_self log));
          before_end = subst (λ (h : List Entry). AllOpen config n h (r.places ++ length log ∷ []) (es ++ e ∷ [])) (sym seen)
              (last_open log (r.places ++ length log ∷ []) (length log ∷ []) no_room.before refl);
          heeds = subst (λ (h : List Entry). Heeds config n h (r.places ++ length log ∷ []) (es ++ e ∷ [])) (sym seen) (called_heeds log log no_room.before (prefix_self log));
          ids = r.ids;
        }

  -- what was sent by the first of the events is sent
  cut_ran : (v : Known) (es : List Event) (s : State) (part said : List Outgoing) → Ran config n v es s said → IsPrefix part said → Cut config n v es part
  cut_ran v es s part said r pre = record {
    places = r.places;
    places_are = r.places_are;
    first = subst (IsPrefix part) (ap (λ (c : Course). c.sent) (sym r.run)) pre;
    own = inl (subst (IsEnterAnd n (own by_of n v.seen)) (ap (λ (c : Course). c.made) (sym r.run)) r.own);
    used = ap (λ (c : Course). c.places) r.run;
    rises = r.rises;
    before_end = r.before_end;
    heeds = r.heeds;
    ids = r.ids;
  }

  -- for the store's answer, or for the session to take it
  pub cut_broken : (v : Known) (es : List Event) (e : Event) (s : State) (said : List Outgoing) (r : Ran config n v es s said) → end_of s.phase ≡ None → IsHeeded r.reach e
      → (w : Known) (o : Option StoreCall) (nth : ℕ) (at : ℤ) → (takes s e).call ≡ o → IfSome o (IsCallAt v.seen) → length (own by_of n v.seen) ≡ nth → at ≡ moment_of e
      → Breaks config n nth at o v w → Cut config n w (es ++ e ∷ []) said
  cut_broken v es e s said r going heeded w None nth at is calls entries now broke = absurd broke
  cut_broken v es e s said r going heeded w (Some call) nth at is calls entries now (inl no_room) = cut_refused v es e s said r going heeded w call is no_room
  cut_broken v es e s said r going heeded w (Some call) nth at is calls entries now (inr done) =
      let t : State = hears (takes s e).state done.0 in
      cut_ran w (es ++ e ∷ []) (drained t) said (said ++ t.out)
      (ran_called v es e s said r going heeded w call nth done.0 is calls entries (subst (λ (m : ℤ). Answers config n nth m call v done.0 w) now done.1)) (prefix-append said t.out)
