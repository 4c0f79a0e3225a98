-- A turn continues or is the last.
use Rattle.std.proofs.Common.{◌≡◌, ◌≤◌, ◌⊎◌, ℕ, ℤ, pos, true, false, List, [], ◌∷◌, ◌++◌, length, map, None, Some, IfSome, refl, ap, sym, ◌∙◌, subst, inl, inr, arith, append_assoc}
use Rattle.std.proofs.lemmas.List.{append-nil}
use Rattle.std.specs.declared.option.Option.{Option}
use mathlib.Core.List.{IsPrefix, map-append}
use Rattle.etp_values.proofs.PrefixLemmas.{prefix_self}
use Rattle.server_config.specs.declared.config.Config.{Config}
use Rattle.store_machine.specs.declared.journal.Entry.{Entry}
use Rattle.store_machine.specs.Laws.{IsCallAt}
use Rattle.turn_book.specs.Lists.{own}
use Rattle.turn_book.specs.Steps.{hearing}
use Rattle.store_hub.specs.Words.{Known, by_of, enters_of}
use Rattle.etp_outside.specs.Told.{Told}
use Rattle.etp_outside.specs.Talk.{Talk, Takes}
use Rattle.etp_outside.specs.declared.link.Item.{Item}
use Rattle.etp_outside.specs.declared.link.Item.TheVariants.{Message, Idle}
use Rattle.etp_outside.proofs.ToldLemmas.{told_weaker, told_self}
use Rattle.session_core.specs.Arriving.{Event, Receives, Polls}
use Rattle.session_core.specs.Run.{takes, drained, moment_of, Course, IsHeeded, run, Heeds}
use Rattle.session_core.specs.Session.{bytes_of, end_of}
use Rattle.session_core.specs.State.{State, first_state}
use Rattle.session_core.specs.Streams.{HasIds}
use Rattle.session_core.specs.declared.state.End.{End}
use Rattle.session_core.specs.declared.state.End.TheVariants as ending
use Rattle.session_core.specs.declared.state.Outgoing.{Outgoing}
use Rattle.etp_serve.specs.Ends.{EndsAs}
use Rattle.etp_serve.specs.Events.{events, event_of, Matched, Lacks, Turned, AllOpen}
use Rattle.etp_serve.specs.Laws.{Laws}
use Rattle.etp_serve.specs.Served.{IsEnterAnd, Owns, Serving, Serves, Ran, IsBeforeTurn, IsWithinTurn}
use Rattle.etp_serve.specs.Steps.{Does, Finishes, Stops}
use Rattle.etp_serve.specs.Talks.{Talked, IsSent}
use Rattle.etp_serve.specs.declared.ended.Ended.{Ended}
use Rattle.etp_serve.specs.declared.ended.Ended.TheVariants.{Closed, Refused, IdsSpent, PeerEnd, LinkFault, NoMemory}
use Rattle.etp_serve.specs.declared.steps.Asked.{Asked}
use Rattle.etp_serve.proofs.EventLemmas.{events_message, events_turn, matched_turn}
use Rattle.etp_serve.proofs.RansLemmas.{Cut, ran_start, ran_hears, ran_settled, cut_begun, cut_broken, settles_heard, breaks_heard}
use Rattle.etp_serve.proofs.RunLemmas.{is_cut, is_serial, is_streamed, is_told_at_idle}
use Rattle.etp_serve.proofs.TalkLemmas.{told_none, told_same, told_takes, told_sends, told_ticks}

-- ---- what holds for each end alike

owns_all : (end : Ended) (n : ℕ) (mine : List (ℕ × Entry)) (places : List ℕ) (made : List (ℕ × Entry)) → IsEnterAnd n mine made → Owns end n mine places made
owns_all Closed n mine places made is = is
owns_all (Refused code) n mine places made is = is
owns_all IdsSpent n mine places made is = is
owns_all PeerEnd n mine places made is = is
owns_all LinkFault n mine places made is = is
owns_all NoMemory n mine places made is = inl is

pub sent_all : (end : Ended) (all : List (List ℕ)) → IsSent end all all
sent_all Closed all = refl
sent_all (Refused code) all = refl
sent_all IdsSpent all = refl
sent_all PeerEnd all = refl
sent_all LinkFault all = prefix_self all
sent_all NoMemory all = prefix_self all

turned_whole : (end : Ended) (items : List Item) (ms : List ℤ) (fs : List ℕ) → Matched items ms fs → Turned end items ms fs
turned_whole Closed items ms fs is = inl is
turned_whole (Refused code) items ms fs is = inl is
turned_whole IdsSpent items ms fs is = inl is
turned_whole PeerEnd items ms fs is = is
turned_whole LinkFault items ms fs is = inl is
turned_whole NoMemory items ms fs is = inl is

-- all that was queued was sent
serving_all : (end : Ended) (taken : List Item) (said : List Outgoing) (a0 a : Option Talk) → Told a0 a (Talked taken (map bytes_of said)) → Told a0 a (Serving end taken said)
serving_all end taken said a0 a talk = told_weaker a0 a (Talked taken (map bytes_of said)) (Serving end taken said) (λ x y t. (map bytes_of said, t, sent_all end (map bytes_of said))) talk

-- a front of what was queued was sent
front_prefix : (said front rest out : List Outgoing) → front ++ rest ≡ out → IsPrefix (map bytes_of said ++ map bytes_of front) (map bytes_of (said ++ out))
front_prefix said front rest out whole = (
  map bytes_of rest,
  append_assoc (map bytes_of said) (map bytes_of front) (map bytes_of rest)
      ∙ (ap (λ l. map bytes_of said ++ l) (sym (map-append bytes_of front rest) ∙ ap (map bytes_of) whole) ∙ sym (map-append bytes_of said out)),
)

told_said : (taken : List Item) (said out : List Outgoing) (a0 a b : Option Talk) → Told a0 a (Talked taken (map bytes_of said)) → Told a b (Talked [] (map bytes_of out)) → Told a0 b (Talked taken (map bytes_of (said ++ out)))
told_said taken said out a0 a b talk more =
    subst (λ l. Told a0 b (Talked taken l)) (sym (map-append bytes_of said out)) (told_sends taken (map bytes_of said) (map bytes_of out) a0 a b talk more)

stops_heard : (config : Config) (n nth : ℕ) (asked : Asked) (v w : Known) (s : State) (a b : Option Talk) (end : Ended) → Stops config n nth asked v w s a b end → w.heard ≡ v.heard
stops_heard config n nth asked v w s a b Closed done = settles_heard config n nth asked.at asked.call v w s done.does.mid done.does.settles
stops_heard config n nth asked v w s a b (Refused code) done = settles_heard config n nth asked.at asked.call v w s done.does.mid done.does.settles
stops_heard config n nth asked v w s a b IdsSpent done = settles_heard config n nth asked.at asked.call v w s done.does.mid done.does.settles
stops_heard config n nth asked v w s a b PeerEnd done = absurd done
stops_heard config n nth asked v w s a b LinkFault cut = settles_heard config n nth asked.at asked.call v w s cut.mid cut.settles
stops_heard config n nth asked v w s a b NoMemory (inl broke) = breaks_heard config n nth asked.at asked.call v w broke.0
stops_heard config n nth asked v w s a b NoMemory (inr cut) = settles_heard config n nth asked.at asked.call v w s cut.mid cut.settles

module _ (laws : Laws) (config : Config) (n : ℕ) (a0 : Option Talk) (c0 : Option (List ℤ)) where
  serves_ran : (end : Ended) (v : Known) (a : Option Talk) (c : Option (List ℤ)) (taken : List Item) (moments : List ℤ) (es : List Event) (s : State) (said : List Outgoing)
      → es ≡ events taken moments v.heard → Turned end taken moments v.heard → (r : Ran config n v es s said) → Told a0 a (Serving end taken said) → Told c0 c (λ x y. y ≡ x ++ moments)
      → EndsAs end (record { state = s; places = []; sent = said; made = r.made; short = false; reach = r.reach }) → Serves end config n v a0 a c0 c
  serves_ran end v a c taken moments es s said are turns r talk clock ends =
      let d : Course = record { state = s; places = []; sent = said; made = r.made; short = false; reach = r.reach } in
      let all : List Event = events taken moments v.heard in
      let is : d ≡ run config n v.seen r.places all = sym r.run ∙ ap (run config n v.seen r.places) are in
      let heeds : Heeds config n v.seen r.places all = subst (Heeds config n v.seen r.places) are r.heeds in
      record {
        taken = taken;
        moments = moments;
        places = r.places;
        places_are = r.places_are;
        link = subst (λ (x : Course). Told a0 a (Serving end taken x.sent)) is talk;
        clock = clock;
        served = record {
          own = subst (λ (x : Course). Owns end n (own by_of n v.seen) r.places x.made) is (owns_all end n (own by_of n v.seen) r.places r.made r.own);
          ends = subst (EndsAs end) is ends;
          used = sym (ap (λ (x : Course). x.places) is);
          rises = r.rises;
          turns = turns;
          before_end = subst (AllOpen config n v.seen r.places) are r.before_end;
          heeds = heeds;
          serial = is_serial laws config n v.seen r.places all r.rises;
          ids = r.ids;
          streams = is_streamed laws config n v.seen r.places all r.rises r.ids;
          idle = is_told_at_idle laws config n v.seen r.places all r.rises r.ids heeds;
          cut = is_cut laws config n v.seen r.places all r.rises r.ids;
        };
      }

  serves_cut : (v : Known) (a : Option Talk) (c : Option (List ℤ)) (taken : List Item) (moments : List ℤ) (es : List Event) (said : List Outgoing)
      → es ≡ events taken moments v.heard → Turned NoMemory taken moments v.heard → Cut config n v es said → Told a0 a (Talked taken (map bytes_of said)) → Told c0 c (λ x y. y ≡ x ++ moments) → Serves NoMemory config n v a0 a c0 c
  serves_cut v a c taken moments es said are turns r talk clock =
      let all : List Event = events taken moments v.heard in
      let is : run config n v.seen r.places es ≡ run config n v.seen r.places all = ap (run config n v.seen r.places) are in
      let heeds : Heeds config n v.seen r.places all = subst (Heeds config n v.seen r.places) are r.heeds in
      record {
        taken = taken;
        moments = moments;
        places = r.places;
        places_are = r.places_are;
        link = subst (λ (x : Course). Told a0 a (Serving NoMemory taken x.sent)) is
            (told_weaker a0 a (Talked taken (map bytes_of said)) (Serving NoMemory taken (run config n v.seen r.places es).sent)
            (λ x y t. (map bytes_of said, t, (map bytes_of r.first.0, sym (map-append bytes_of said r.first.0) ∙ ap (map bytes_of) r.first.1))) talk);
        clock = clock;
        served = record {
          own = subst (λ (x : Course). Owns NoMemory n (own by_of n v.seen) r.places x.made) is r.own;
          ends = tt;
          used = sym (ap (λ (x : Course). x.places) is) ∙ r.used;
          rises = r.rises;
          turns = turns;
          before_end = subst (AllOpen config n v.seen r.places) are r.before_end;
          heeds = heeds;
          serial = is_serial laws config n v.seen r.places all r.rises;
          ids = r.ids;
          streams = is_streamed laws config n v.seen r.places all r.rises r.ids;
          idle = is_told_at_idle laws config n v.seen r.places all r.rises r.ids heeds;
          cut = is_cut laws config n v.seen r.places all r.rises r.ids;
        };
      }

  -- ---- one event, whatever its kind: what came before it, and the turns with it

  module _ (v : Known) (s : State) (b : Option Talk) (d : Option (List ℤ)) (taken : List Item) (moments : List ℤ) (es : List Event) (e : Event) (said : List Outgoing)
      (are : es ++ e ∷ [] ≡ events taken moments v.heard) (turns : Matched taken moments v.heard ⊎ Lacks taken moments v.heard) (r : Ran config n v es s said) (going : end_of s.phase ≡ None) (heeded : IsHeeded r.reach e)
      (talk : Told a0 b (Talked taken (map bytes_of said))) (clock : Told c0 d (λ x y. y ≡ x ++ moments)) where
    -- memory ran out at its beginning
    event_fails : Serves NoMemory config n v a0 b c0 d
    event_fails = serves_cut v b d taken moments (es ++ e ∷ []) said are turns (cut_begun laws config n v es e s said r going heeded) talk clock

    module _ (asked : Asked) (nth : ℕ) (w : Known) (b' : Option Talk) (is : (takes s e).call ≡ asked.call) (calls : IfSome asked.call (IsCallAt v.seen)) (entries : length (own by_of n v.seen) ≡ nth) (now : asked.at ≡ moment_of e)
        (heard : w.heard ≡ v.heard) where
      event_done : (t : State) (done : Does config n nth asked v w (takes s e).state t b b') → Ran config n w (es ++ e ∷ []) t (said ++ done.mid.out)
      event_done t done =
          subst (λ (x : State). Ran config n w (es ++ e ∷ []) x (said ++ done.mid.out)) (sym done.state)
          (ran_settled laws config n v es e s said r going heeded w done.mid asked.call nth asked.at is calls entries now done.settles)

      are_now : es ++ e ∷ [] ≡ events taken moments w.heard
      are_now = are ∙ ap (events taken moments) (sym heard)

      turned_now : (end : Ended) → Turned end taken moments v.heard → Turned end taken moments w.heard
      turned_now end t = subst (Turned end taken moments) (sym heard) t

      finishes : (last : End) (end : Ended) → Turned end taken moments v.heard → ((x : Course) → end_of x.state.phase ≡ Some last → x.short ≡ false → EndsAs end x) → Finishes config n nth asked v w (takes s e).state b b' last
          → Serves end config n w a0 b' c0 d
      finishes last end t ends done =
          let r' : Ran config n w (es ++ e ∷ []) done.after (said ++ done.does.mid.out) = event_done done.after done.does in
          let x : Course = record { state = done.after; places = []; sent = said ++ done.does.mid.out; made = r'.made; short = false; reach = r'.reach } in
          serves_ran end w b' d taken moments (es ++ e ∷ []) done.after (said ++ done.does.mid.out) are_now (turned_now end t) r'
          (serving_all end taken (said ++ done.does.mid.out) a0 b' (told_said taken said done.does.mid.out a0 b b' talk done.does.talk)) clock (ends x done.ends refl)

      event_stops : (end : Ended) → Stops config n nth asked v w (takes s e).state b b' end → Serves end config n w a0 b' c0 d
      event_stops Closed done = finishes ending.Closed Closed turns (λ x is short. (is, short)) done
      event_stops (Refused code) done = finishes (ending.Refused code) (Refused code) turns (λ x is short. (is, short)) done
      event_stops IdsSpent done = finishes ending.IdsSpent IdsSpent turns (λ x is short. (is, short)) done
      event_stops PeerEnd done = absurd done
      event_stops LinkFault cut =
          serves_ran LinkFault w b' d taken moments (es ++ e ∷ []) (drained cut.mid) (said ++ cut.mid.out) are_now (turned_now LinkFault turns)
          (ran_settled laws config n v es e s said r going heeded w cut.mid asked.call nth asked.at is calls entries now cut.settles)
          (told_weaker a0 b' (Talked taken (map bytes_of said ++ map bytes_of cut.talk.front)) (Serving LinkFault taken (said ++ cut.mid.out))
          (λ x y t. (map bytes_of said ++ map bytes_of cut.talk.front, t, front_prefix said cut.talk.front cut.talk.rest cut.mid.out cut.talk.whole))
          (told_sends taken (map bytes_of said) (map bytes_of cut.talk.front) a0 b b' talk cut.talk.talk)) clock refl
      event_stops NoMemory (inl broke) =
          serves_cut w b' d taken moments (es ++ e ∷ []) said are_now (turned_now NoMemory turns)
          (cut_broken laws config n v es e s said r going heeded w asked.call nth asked.at is calls entries now broke.0)
          (subst (λ l. Told a0 b' (Talked taken l)) (append-nil (map bytes_of said)) (told_sends taken (map bytes_of said) [] a0 b b' talk broke.1)) clock
      event_stops NoMemory (inr cut) =
          serves_ran NoMemory w b' d taken moments (es ++ e ∷ []) (drained cut.mid) (said ++ cut.mid.out) are_now (turned_now NoMemory turns)
          (ran_settled laws config n v es e s said r going heeded w cut.mid asked.call nth asked.at is calls entries now cut.settles)
          (told_weaker a0 b' (Talked taken (map bytes_of said ++ map bytes_of cut.talk.front)) (Serving NoMemory taken (said ++ cut.mid.out))
          (λ x y t. (map bytes_of said ++ map bytes_of cut.talk.front, t, front_prefix said cut.talk.front cut.talk.rest cut.mid.out cut.talk.whole))
          (told_sends taken (map bytes_of said) (map bytes_of cut.talk.front) a0 b b' talk cut.talk.talk)) clock tt

  -- ---- the link gave nothing

  module _ (v : Known) (s : State) (a b : Option Talk) (c : Option (List ℤ)) where
    pub run_stops : (end : Ended) → IsBeforeTurn config n a0 c0 v s a c → Told a b (λ x y. y ≡ x)
        → ((made : List (ℕ × Entry)) (said : List Outgoing) (reach : ℕ) → EndsAs end (record { state = s; places = []; sent = said; made = made; short = false; reach = reach })) → Serves end config n v a0 b c0 c
    run_stops end r same ends =
        serves_ran end v b c r.taken r.moments (events r.taken r.moments v.heard) s r.said refl (turned_whole end r.taken r.moments v.heard r.matched) r.ran
        (serving_all end r.taken r.said a0 b (told_same r.taken (map bytes_of r.said) a0 a b r.link same)) r.clock (ends r.ran.made r.said r.ran.reach)

    pub run_idle : IsBeforeTurn config n a0 c0 v s a c → Told a b (Takes Idle) → IsWithinTurn config n a0 c0 v s b c
    run_idle r takes_idle = record {
      taken = r.taken;
      moments = r.moments;
      said = r.said;
      item = Idle;
      moment = [];
      ran = subst (λ (l : List Event). Ran config n v l s r.said) (sym (append-nil (events r.taken r.moments v.heard))) r.ran;
      going = r.going;
      matched = r.matched;
      moment_is = refl;
      link = told_takes r.taken (map bytes_of r.said) Idle a0 a b r.link takes_idle;
      clock = subst (λ (l : List ℤ). Told c0 c (λ x y. y ≡ x ++ l)) (sym (append-nil r.moments)) r.clock;
    }

    -- ---- a message came

    module _ (d : Option (List ℤ)) (bytes : List ℕ) (m : ℤ) (r : IsBeforeTurn config n a0 c0 v s a c) (came : Told a b (Takes (Message bytes))) (told : Told c d (λ x y. y ≡ x ++ m ∷ [])) where
      message_events : events r.taken r.moments v.heard ++ Receives bytes m ∷ [] ≡ events (r.taken ++ Message bytes ∷ []) (r.moments ++ m ∷ []) v.heard
      message_events = sym (events_message r.taken r.moments v.heard bytes m r.matched)

      message_lacks : Matched (r.taken ++ Message bytes ∷ []) (r.moments ++ m ∷ []) v.heard ⊎ Lacks (r.taken ++ Message bytes ∷ []) (r.moments ++ m ∷ []) v.heard
      message_lacks = inr record { first = r.taken; bytes = bytes; before = r.moments; moment = m; items_are = refl; moments_are = refl; matched = r.matched }

      message_talk : Told a0 b (Talked (r.taken ++ Message bytes ∷ []) (map bytes_of r.said))
      message_talk = told_takes r.taken (map bytes_of r.said) (Message bytes) a0 a b r.link came

      message_clock : Told c0 d (λ x y. y ≡ x ++ (r.moments ++ m ∷ []))
      message_clock = told_ticks r.moments m c0 c d r.clock told

      pub message_fails : Serves NoMemory config n v a0 b c0 d
      message_fails =
          event_fails v s b d (r.taken ++ Message bytes ∷ []) (r.moments ++ m ∷ []) (events r.taken r.moments v.heard) (Receives bytes m) r.said
          message_events message_lacks r.ran r.going tt message_talk message_clock

      module _ (asked : Asked) (nth : ℕ) (w : Known) (b' : Option Talk) (is : (takes s (Receives bytes m)).call ≡ asked.call) (calls : IfSome asked.call (IsCallAt v.seen)) (entries : length (own by_of n v.seen) ≡ nth) (now : asked.at ≡ m) where
        pub message_stops : (end : Ended) → Stops config n nth asked v w (takes s (Receives bytes m)).state b b' end → Serves end config n w a0 b' c0 d
        message_stops end stops =
            event_stops v s b d (r.taken ++ Message bytes ∷ []) (r.moments ++ m ∷ []) (events r.taken r.moments v.heard) (Receives bytes m) r.said
            message_events message_lacks r.ran r.going tt message_talk message_clock asked nth w b' is calls entries now (stops_heard config n nth asked v w (takes s (Receives bytes m)).state b b' end stops) end stops

        pub message_done : (t : State) → Does config n nth asked v w (takes s (Receives bytes m)).state t b b' → end_of t.phase ≡ None → IsWithinTurn config n a0 c0 w t b' d
        message_done t done going = let heard : w.heard ≡ v.heard = settles_heard config n nth asked.at asked.call v w (takes s (Receives bytes m)).state done.mid done.settles in record {
          taken = r.taken;
          moments = r.moments;
          said = r.said ++ done.mid.out;
          item = Message bytes;
          moment = m ∷ [];
          ran = subst (λ (fs : List ℕ). Ran config n w (events r.taken r.moments fs ++ Receives bytes m ∷ []) t (r.said ++ done.mid.out)) (sym heard)
              (event_done v s b d (r.taken ++ Message bytes ∷ []) (r.moments ++ m ∷ []) (events r.taken r.moments v.heard) (Receives bytes m) r.said
              message_events message_lacks r.ran r.going tt message_talk message_clock asked nth w b' is calls entries now heard t done);
          going = going;
          matched = subst (Matched r.taken r.moments) (sym heard) r.matched;
          moment_is = (m, refl);
          link = told_said (r.taken ++ Message bytes ∷ []) r.said done.mid.out a0 b b' message_talk done.talk;
          clock = message_clock;
        }

  -- ---- the turn's poll

  module _ (u v : Known) (s : State) (b : Option Talk) (d : Option (List ℤ)) (f : ℕ) (h : IsWithinTurn config n a0 c0 u s b d) (least : length u.seen ≤ f) (found : v ≡ hearing f u) where
    poll_ran : Ran config n v (events h.taken h.moments u.heard ++ event_of h.item h.moment) s h.said
    poll_ran = ran_hears laws config n u v f (events h.taken h.moments u.heard ++ event_of h.item h.moment) s h.said h.ran found

    poll_heard : v.heard ≡ u.heard ++ f ∷ []
    poll_heard = ap (λ (x : Known). x.heard) found

    poll_events : (events h.taken h.moments u.heard ++ event_of h.item h.moment) ++ Polls f ∷ [] ≡ events (h.taken ++ h.item ∷ []) (h.moments ++ h.moment) v.heard
    poll_events =
        sym (events_turn h.taken h.moments u.heard h.item h.moment f h.matched h.moment_is) ∙ ap (events (h.taken ++ h.item ∷ []) (h.moments ++ h.moment)) (sym poll_heard)

    poll_matched : Matched (h.taken ++ h.item ∷ []) (h.moments ++ h.moment) v.heard
    poll_matched = subst (Matched (h.taken ++ h.item ∷ []) (h.moments ++ h.moment)) (sym poll_heard) (matched_turn h.taken h.moments u.heard h.item h.moment f h.matched h.moment_is)

    poll_heeded : poll_ran.reach ≤ f
    poll_heeded = let seen : v.seen ≡ u.seen = ap (λ (x : Known). x.seen) found in let within = poll_ran.within in omega (arith, ap length seen)

    pub poll_fails : Serves NoMemory config n v a0 b c0 d
    poll_fails =
        event_fails v s b d (h.taken ++ h.item ∷ []) (h.moments ++ h.moment) (events h.taken h.moments u.heard ++ event_of h.item h.moment) (Polls f) h.said
        poll_events (inl poll_matched) poll_ran h.going poll_heeded h.link h.clock

    module _ (asked : Asked) (nth : ℕ) (w : Known) (b' : Option Talk) (is : (takes s (Polls f)).call ≡ asked.call) (calls : IfSome asked.call (IsCallAt v.seen)) (entries : length (own by_of n v.seen) ≡ nth) (now : asked.at ≡ pos 0) where
      pub poll_stops : (end : Ended) → Stops config n nth asked v w (takes s (Polls f)).state b b' end → Serves end config n w a0 b' c0 d
      poll_stops end stops =
          event_stops v s b d (h.taken ++ h.item ∷ []) (h.moments ++ h.moment) (events h.taken h.moments u.heard ++ event_of h.item h.moment) (Polls f) h.said
          poll_events (inl poll_matched) poll_ran h.going poll_heeded h.link h.clock asked nth w b' is calls entries now (stops_heard config n nth asked v w (takes s (Polls f)).state b b' end stops) end stops

      pub poll_done : (t : State) → Does config n nth asked v w (takes s (Polls f)).state t b b' → end_of t.phase ≡ None → IsBeforeTurn config n a0 c0 w t b' d
      poll_done t done going = let heard : w.heard ≡ v.heard = settles_heard config n nth asked.at asked.call v w (takes s (Polls f)).state done.mid done.settles in record {
        taken = h.taken ++ h.item ∷ [];
        moments = h.moments ++ h.moment;
        said = h.said ++ done.mid.out;
        ran = subst (λ (l : List Event). Ran config n w l t (h.said ++ done.mid.out)) (poll_events ∙ ap (events (h.taken ++ h.item ∷ []) (h.moments ++ h.moment)) (sym heard))
            (event_done v s b d (h.taken ++ h.item ∷ []) (h.moments ++ h.moment) (events h.taken h.moments u.heard ++ event_of h.item h.moment) (Polls f) h.said
            poll_events (inl poll_matched) poll_ran h.going poll_heeded h.link h.clock asked nth w b' is calls entries now heard t done);
        going = going;
        matched = subst (Matched (h.taken ++ h.item ∷ []) (h.moments ++ h.moment)) (sym heard) poll_matched;
        link = told_said (h.taken ++ h.item ∷ []) h.said done.mid.out a0 b b' h.link done.talk;
        clock = h.clock;
      }

-- a session that was just let in
pub run_start : (laws : Laws) (config : Config) (n : ℕ) → HasIds config → (v : Known) (e : Entry) (a : Option Talk) (c : Option (List ℤ)) → v.places ≡ n ∷ [] → v.heard ≡ [] → own by_of n v.seen ≡ (n, e) ∷ [] → enters_of e ≡ true
    → IsBeforeTurn config n a c v (first_state config n (pos 1)) a c
run_start laws config n ids v e a c places heard mine enters = record {
  taken = [];
  moments = [];
  said = [];
  ran = ran_start laws config n ids v e places mine enters;
  going = refl;
  matched = subst (Matched [] []) (sym heard) tt;
  link = told_none a;
  clock = told_self c (λ x y. y ≡ x ++ []) (λ x. sym (append-nil x));
}
