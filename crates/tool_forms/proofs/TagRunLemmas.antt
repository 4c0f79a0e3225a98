-- What a play is to one tag is a run.
use Rattle.std.proofs.Common.{◌≡◌, ℕ, suc, ℤ, ◌+◌, ◌<◌, ◌≤◌, ◌==◌, ◌&&◌, ◌||◌, Bool, true, false, cond, List, [], ◌∷◌, ◌++◌, length, map, filter, fold, take, None, Some, if◌then◌else◌, refl, ap, sym, ◌∙◌, subst, arith, append-nil, length-append, eq-eqb, inl, inr}
use Rattle.std.specs.Prelude.{IfSome, slice_get}
use Rattle.std.specs.Map.{values_of}
use Rattle.std.specs.declared.option.Option.{Option}
use Rattle.std.specs.Ordering.{nat_cmp}
use Rattle.std.specs.BTreeMap.{is_at}
use Rattle.std.proofs.lemmas.List.{take_at, map-append}
use Rattle.std.proofs.lemmas.List.Elements.{filter-append}
use Rattle.std.proofs.lemmas.Bool.{false≢true}
use Rattle.std.proofs.lemmas.Bool.Decides.{nat_tests}
use mathlib.Core.List.{IsPrefix, prefix-append}
use Rattle.etp_values.proofs.ListLemmas.{below_length}
use Rattle.etp_values.proofs.PrefixLemmas.{prefix_self, prefix_trans, prefix_length, prefix_get}
use Rattle.etp_values.proofs.RisingLemmas.{rises_wider}
use Rattle.etp_capture.specs.declared.frame.Frame.{Frame}
use Rattle.server_config.specs.declared.config.Config.{Config}
use Rattle.store_machine.specs.Answers.{answered, added, has_room, wanted}
use Rattle.store_machine.specs.declared.journal.Act.TheVariants as act
use Rattle.store_machine.specs.declared.call.Reply.TheVariants as reply
use Rattle.store_machine.specs.Growth.{CallsKeepLegal}
use Rattle.store_machine.specs.Laws.{OneOrNone, CallsAddOne, EntriesAreTheSessions, IsCallAt, NextMayAsk, NextNumberIsFresh}
use Rattle.store_machine.specs.Legal.{Legal, own}
use Rattle.store_machine.specs.declared.journal.Entry.{Entry}
use Rattle.store_machine.specs.declared.call.StoreCall.{StoreCall}
use Rattle.store_machine.specs.declared.call.StoreCall.TheVariants.{Enter}
use Rattle.store_machine.proofs.NumberLemmas.{added-one}
use Rattle.session_core.specs.Arriving.{Event, Receives, Polls}
use Rattle.session_core.specs.State.{State}
use Rattle.session_core.specs.Run.{takes, hears, drained, moment_of, at_place, Course, own_number, IsHeeded, asked, AllWithin, RunIsSame, RunGoesOn}
use Rattle.session_core.specs.Session.{bytes_of, end_of}
use Rattle.session_core.specs.declared.state.Outgoing.{Outgoing}
use Rattle.session_core.specs.declared.state.End.{End}
use Rattle.tool_forms.specs.Turns.{ending_bytes, session_end_bytes, answering, messages, end_frame, event_of, Turn, turned, turn, Effect, effect_after, effect_open, first_open, entered_journal, entered_place, effect_entered, effect_new, effect_at, place_in}
use Rattle.tool_forms.specs.Play.{World, Played, first_world, has_ended, next_played, happens_to, play_from, play, is_refused, state_of, with_tag, effect}
use Rattle.tool_forms.specs.Sound.{FitsTag, IsSound}
use Rattle.tool_forms.specs.TagRuns.{TagRun, first_run, run_with, run_entered, run_after, Followed, first_followed, next_followed, follow_to, follow, followed, payloads_to, AllStand, Wrote, run_of, IsRun, IsEnd, IsSent, PlayIsRuns}
use Rattle.tool_forms.specs.declared.tag.TagState.{TagState}
use Rattle.tool_forms.specs.declared.tag.TagState.TheVariants.{Ended, Open}
use Rattle.tool_forms.specs.declared.tag.OpenSession.{OpenSession}
use Rattle.tool_forms.specs.declared.tag.Ending.{Ending}
use Rattle.tool_forms.specs.declared.tag.Ending.TheVariants.{Session, PeerEnd, JournalFull}
use Rattle.tool_forms.proofs.GrowthLemmas.{Grows}
use Rattle.tool_forms.proofs.LegalLemmas.{at_legal}
use Rattle.tool_forms.proofs.OwnLemmas.{IsApart, IsBelow, OwnStays, entered-wrote, fall-turned, other_apart, own_apart, own_stays, values-placed, wrote-longer, wrote-more}
use Rattle.session_core.proofs.RunLemmas.{course}
use Rattle.session_core.proofs.StepLemmas.{asks_call}
use Rattle.tool_forms.proofs.SoundnessLemmas.{Laws, TagFits, by_added, effect_fits, number_in, sound_put}
use Rattle.tool_forms.proofs.TagLemmas.{put_found, at_other, at_self}

-- ---- what goes to a tag

to_both : (kind tag : ℕ) (xs ys : List Frame) → payloads_to kind tag (xs ++ ys) ≡ payloads_to kind tag xs ++ payloads_to kind tag ys
to_both kind tag xs ys =
    ap (map (λ (f : Frame). f.bytes)) (filter-append (λ (f : Frame). f.kind == kind && f.tag == tag) xs ys)
    ∙ map-append (λ (f : Frame). f.bytes) (filter (λ (f : Frame). f.kind == kind && f.tag == tag) xs) (filter (λ (f : Frame). f.kind == kind && f.tag == tag) ys)

-- one frame before, by the test of its kind and tag
abbrev in_front : Bool → Frame → List Frame → List (List ℕ)
in_front b x xs = map (λ (g : Frame). g.bytes) (cond b (x ∷ xs) xs)

abbrev kept : ℕ → ℕ → List Frame → List Frame
kept kind tag xs = filter (λ (g : Frame). g.kind == kind && g.tag == tag) xs

-- the messages of a session go to its tag
own_messages : (tag : ℕ) (f : Frame) (sent : List Outgoing) → (f.tag == tag) ≡ true → payloads_to 17 tag (messages f sent) ≡ map bytes_of sent
own_messages tag f [] is = refl
own_messages tag f (o ∷ os) is =
    ap (λ b. in_front b (answering 17 f (bytes_of o)) (kept 17 tag (messages f os))) is ∙ ap (λ l. bytes_of o ∷ l) (own_messages tag f os is)

other_messages : (tag : ℕ) (f : Frame) (sent : List Outgoing) → (f.tag == tag) ≡ false → payloads_to 17 tag (messages f sent) ≡ []
other_messages tag f [] is = refl
other_messages tag f (o ∷ os) is = ap (λ b. in_front b (answering 17 f (bytes_of o)) (kept 17 tag (messages f os))) is ∙ other_messages tag f os is

-- no message is an end
no_ends : (tag : ℕ) (f : Frame) (sent : List Outgoing) → payloads_to 19 tag (messages f sent) ≡ []
no_ends tag f [] = refl
no_ends tag f (o ∷ os) = no_ends tag f os

own_end : (tag : ℕ) (f : Frame) (why : Ending) → (f.tag == tag) ≡ true → payloads_to 19 tag (end_frame f why ∷ []) ≡ ending_bytes why ∷ []
own_end tag f why is = ap (λ b. in_front b (end_frame f why) []) is

other_end : (tag : ℕ) (f : Frame) (why : Ending) → (f.tag == tag) ≡ false → payloads_to 19 tag (end_frame f why ∷ []) ≡ []
other_end tag f why is = ap (λ b. in_front b (end_frame f why) []) is

-- the messages and the end of a session that has ended
ended_messages : (tag : ℕ) (f : Frame) (sent : List Outgoing) (why : Ending) → payloads_to 17 tag (messages f sent ++ end_frame f why ∷ []) ≡ payloads_to 17 tag (messages f sent)
ended_messages tag f sent why = to_both 17 tag (messages f sent) (end_frame f why ∷ []) ∙ append-nil (payloads_to 17 tag (messages f sent))

ended_ends : (tag : ℕ) (f : Frame) (sent : List Outgoing) (why : Ending) → payloads_to 19 tag (messages f sent ++ end_frame f why ∷ []) ≡ payloads_to 19 tag (end_frame f why ∷ [])
ended_ends tag f sent why = to_both 19 tag (messages f sent) (end_frame f why ∷ []) ∙ ap (λ l. l ++ payloads_to 19 tag (end_frame f why ∷ [])) (no_ends tag f sent)

-- a frame of another tag is answered by nothing to this one
abbrev NoneTo : ℕ → List Frame → Type 0
NoneTo tag answers = (payloads_to 17 tag answers ≡ []) × (payloads_to 19 tag answers ≡ [])

after_other : (tag : ℕ) (f : Frame) (t : Turn) (o : Option End) → (f.tag == tag) ≡ false → NoneTo tag (effect_after f t o).answers
after_other tag f t None is = (other_messages tag f t.session.session.out is, no_ends tag f t.session.session.out)
after_other tag f t (Some e) is =
    (ended_messages tag f t.session.session.out (Session e) ∙ other_messages tag f t.session.session.out is, ended_ends tag f t.session.session.out (Session e) ∙ other_end tag f (Session e) is)

kind_other : (tag : ℕ) (b : Bool) (x y : Effect) → NoneTo tag x.answers → NoneTo tag y.answers → NoneTo tag (if b then x else y).answers
kind_other tag true x y p q = p
kind_other tag false x y p q = q

open_other : (c : Config) (h : List Entry) (s : OpenSession) (f : Frame) (tag : ℕ) → (f.tag == tag) ≡ false → NoneTo tag (effect_open c h s f).answers
open_other c h s f tag is =
    kind_other tag (f.kind == 3) _ _ (refl, other_end tag f PeerEnd is) (after_other tag f (turn c h s f) (end_of (turn c h s f).session.session.phase) is)

entered_other : (c : Config) (h : List Entry) (f : Frame) (tag : ℕ) (o : Option ℕ) → (f.tag == tag) ≡ false → NoneTo tag (effect_entered c h f o).answers
entered_other c h f tag None is = (refl, other_end tag f JournalFull is)
entered_other c h f tag (Some n) is = open_other c h (first_open c n) f tag is

at_others : (c : Config) (h : List Entry) (f : Frame) (tag : ℕ) (o : Option TagState) → (f.tag == tag) ≡ false → NoneTo tag (effect_at c h f o).answers
at_others c h f tag None is = entered_other c (entered_journal c h f) f tag (entered_place c h) is
at_others c h f tag (Some (Open s)) is = open_other c h s f tag is
at_others c h f tag (Some Ended) is = (refl, refl)

-- ---- the journal grows

turned_prefix : (c : Config) (h : List Entry) (at : ℤ) (s : OpenSession) (st : State) (o : Option StoreCall) → IsPrefix h (turned c h at s st o).journal
turned_prefix c h at s st None = prefix_self h
turned_prefix c h at s st (Some call) = prefix-append h (added c h s.number s.entries at call)

after_prefix : (h : List Entry) (f : Frame) (t : Turn) (o : Option End) → IsPrefix h t.journal → IsPrefix h (effect_after f t o).journal
after_prefix h f t None pre = pre
after_prefix h f t (Some e) pre = pre

kind_prefix : (h : List Entry) (b : Bool) (x y : Effect) → IsPrefix h x.journal → IsPrefix h y.journal → IsPrefix h (if b then x else y).journal
kind_prefix h true x y p q = p
kind_prefix h false x y p q = q

open_prefix : (c : Config) (h : List Entry) (s : OpenSession) (f : Frame) → IsPrefix h (effect_open c h s f).journal
open_prefix c h s f = kind_prefix h (f.kind == 3) _ _ (prefix_self h)
    (after_prefix h f (turn c h s f) (end_of (turn c h s f).session.session.phase)
    (turned_prefix c h (moment_of (event_of h f)) s (takes s.session (event_of h f)).state (takes s.session (event_of h f)).call))

entered_prefix : (c : Config) (h : List Entry) (f : Frame) (o : Option ℕ) → IsPrefix h (effect_entered c h f o).journal
entered_prefix c h f None = prefix_self h
entered_prefix c h f (Some n) = open_prefix c h (first_open c n) f

at_prefix : (c : Config) (h : List Entry) (f : Frame) (o : Option TagState) → IsPrefix h (effect_at c h f o).journal
at_prefix c h f None = prefix_trans h (entered_journal c h f) (effect_new c h f).journal (prefix-append h (added c h 0 0 f.moment Enter)) (entered_prefix c (entered_journal c h f) f (entered_place c h))
at_prefix c h f (Some (Open s)) = open_prefix c h s f
at_prefix c h f (Some Ended) = prefix_self h

-- ---- places and entries

within_more : (k m : ℕ) (ps : List ℕ) → k ≤ m → AllWithin k ps → AllWithin m ps
within_more k m [] le w = tt
within_more k m (p ∷ ps) le w = (let x = w.0 in omega arith, within_more k m ps le w.1)

within_both : (k : ℕ) (ps qs : List ℕ) → AllWithin k ps → AllWithin k qs → AllWithin k (ps ++ qs)
within_both k [] qs v w = w
within_both k (p ∷ ps) qs v w = (v.0, within_both k ps qs v.1 w)

stand_longer : (old new : List Entry) (xs : List (ℕ × Entry)) → IsPrefix old new → AllStand old xs → AllStand new xs
stand_longer old new [] pre all = tt
stand_longer old new (x ∷ xs) pre all = (prefix_get old new x.0 x.1 pre all.0, stand_longer old new xs pre all.1)

stand_both : (h : List Entry) (xs ys : List (ℕ × Entry)) → AllStand h xs → AllStand h ys → AllStand h (xs ++ ys)
stand_both h [] ys all last = last
stand_both h (x ∷ xs) ys all last = (all.0, stand_both h xs ys all.1 last)

get_last : (h : List Entry) (e : Entry) → slice_get (h ++ e ∷ []) (length h) ≡ Some e
get_last [] e = refl
get_last (x ∷ h) e = get_last h e

stand_added : (h es : List Entry) → OneOrNone es → AllStand (h ++ es) (at_place (length h) es)
stand_added h [] one = tt
stand_added h (e ∷ []) one = (get_last h e, tt)
stand_added h (e ∷ d ∷ es) one = absurd one

length_at : (p : ℕ) (es : List Entry) → length (at_place p es) ≡ length es
length_at p [] = refl
length_at p (e ∷ es) = ap suc (length_at p es)

-- ---- an event of the session is one more event of its run

-- a course by its parts
abbrev course_of_parts : State → List ℕ → Bool → List Outgoing → List (ℕ × Entry) → ℕ → Course
course_of_parts s places short xs made reach = record { state = s; places = places; sent = xs; made = made; short = short; reach = reach }

-- what the course after an event has of the turn
record Comes (h : List Entry) (t : Turn) (xs : List Outgoing) (made : List (ℕ × Entry)) (d : Course) : Type 0 where
  state : d.state ≡ drained t.session.session
  places : d.places ≡ []
  sent : d.sent ≡ xs ++ t.session.session.out
  short : d.short ≡ false
  entries : t.session.entries ≡ own_number d.made
  reach : d.reach ≤ length t.journal
  stand : AllStand h made → AllStand t.journal d.made
  wrote : Wrote h t.session.number made → Wrote t.journal t.session.number d.made
  marks : AllWithin (length t.journal) t.marks

comes : CallsAddOne → EntriesAreTheSessions → (c : Config) (n : ℕ) (h : List Entry) (at : ℤ) (s : OpenSession) (xs : List Outgoing) (made : List (ℕ × Entry)) (reach : ℕ) → s.number ≡ n → s.entries ≡ own_number made → reach ≤ length h
    → (st : State) (o : Option StoreCall) → IfSome o (IsCallAt h) → let t = turned c h at s st o in Comes h t xs made (asked c n t.journal at (course s.session t.marks xs made reach) st o)
comes one own_entries c n h at s xs made reach number entries seen st None is =
    record { state = refl; places = refl; sent = refl; short = refl; entries = entries; reach = seen; stand = λ all. all; wrote = λ w. w; marks = tt }
comes one own_entries c n h at s xs made reach number entries seen st (Some call) is =
    let es : List Entry = added c h s.number s.entries at call in
    let front : take (length h) (h ++ es) ≡ h = take_at h es (length h) refl in
    let ds : List Entry = added c (take (length h) (h ++ es)) n (own_number made) at call in
    let same : ds ≡ es = ap (λ (x : List Entry). added c x n (own_number made) at call) front ∙ ap (λ (m : ℕ). added c h m (own_number made) at call) (sym number) ∙ ap (λ (k : ℕ). added c h s.number k at call) (sym entries) in
    let answer : State = hears st (answered c h call) in
    let heard : hears st (answered c (take (length h) (h ++ es)) call) ≡ answer = ap (λ (x : List Entry). hears st (answered c x call)) front in
    let long : length (h ++ es) ≡ length h + length es = length-append h es in
    record {
      state = ap drained heard;
      places = refl;
      sent = ap (λ (x : State). xs ++ x.out) heard;
      short = refl;
      entries = omega (arith, entries, length-append made (at_place (length h) ds), length_at (length h) ds, ap length same);
      reach = omega (arith, long, ap length same);
      stand = λ all. stand_both (h ++ es) made (at_place (length h) ds) (stand_longer h (h ++ es) made (prefix-append h es) all)
          (subst (λ (x : List Entry). AllStand (h ++ es) (at_place (length h) x)) (sym same) (stand_added h es (added-one one c h s.number s.entries at call)));
      wrote = wrote-more h es s.number made (at_place (length h) ds) (by_added own_entries c h s.number s.entries at call is) (values-placed (length h) ds ∙ same);
      marks = (omega (arith, long), tt);
    }

-- ---- a tag

-- an open session is where its run is
record Goes (c : Config) (h : List Entry) (ms : List (List ℕ)) (r : TagRun) (s : OpenSession) : Type 0 where
  is : IsRun c h ms r
  number : s.number ≡ r.number
  entries : s.entries ≡ own_number (run_of c h r).made
  state : (run_of c h r).state ≡ s.session
  reach : (run_of c h r).reach ≤ length h

-- what the frames so far sent to a tag fits its session's run
abbrev Fits : Config → List Entry → List (List ℕ) → List (List ℕ) → Option TagRun → Option TagState → Type 0
Fits c h ms es None None = (ms ≡ []) × (es ≡ [])
Fits c h ms es None (Some Ended) = (ms ≡ []) × (es ≡ ending_bytes JournalFull ∷ [])
Fits c h ms es None (Some (Open s)) = ⊥
Fits c h ms es (Some r) None = ⊥
Fits c h ms es (Some r) (Some Ended) = IsRun c h ms r × IsEnd (end_of (run_of c h r).state.phase) es
Fits c h ms es (Some r) (Some (Open s)) = Goes c h ms r s × (es ≡ []) × (end_of s.session.phase ≡ None)

is_heeded : (h : List Entry) (reach : ℕ) (f : Frame) (b : Bool) → reach ≤ length h → IsHeeded reach (if b then Receives f.bytes f.moment else Polls (length h))
is_heeded h reach f true le = tt
is_heeded h reach f false le = le

-- the place at which a session was let in is the last one of the journal
entered_reach : (h : List Entry) (e : Entry) (b : Bool) (n : ℕ) → place_in (if b then reply.Entered (length h) else reply.JournalFull) ≡ Some n → n + 1 ≤ length (h ++ (if b then e ∷ [] else []))
entered_reach h e true n is = let here : length h ≡ n = cc in omega (arith, here, length-append h (e ∷ []))
entered_reach h e false n is = absurd cc

entered_within : (c : Config) (h : List Entry) (f : Frame) (n : ℕ) → entered_place c h ≡ Some n → n + 1 ≤ length (entered_journal c h f)
unfolding answered added
entered_within c h f n is = entered_reach h (record { by = length h; nth = 0; at = f.moment; act = act.Enter }) (has_room c h (wanted c h Enter)) n is

-- ---- tags

same_tags : (a b : ℕ) → (a == b) ≡ true → a ≡ b
same_tags a b is = grind (arith, nat_tests)

other_tags : (a b : ℕ) → (a == b) ≡ false → b ≡ a → ⊥
other_tags a b is same = false≢true (sym is ∙ eq-eqb a b (sym same))

last_false : (a b c : Bool) → (a || b || c) ≡ false → c ≡ false
last_false true b c is = absurd (false≢true (sym is))
last_false false true c is = absurd (false≢true (sym is))
last_false false false c is = is

-- no tag has come yet
first_sound : (c : Config) → IsSound (first_world c)
first_sound c = record { fits = λ tag. tt; apart = λ tag other s t at_tag at_other same. absurd (none_open (state_of tag []) s refl at_tag) }
  where
    none_open : (o : Option TagState) (s : OpenSession) → o ≡ None → o ≡ Some (Open s) → ⊥
    none_open o s none_is open_is = cc

-- a session's own entry of entering is in the journal
wrote_below : (h : List Entry) (n : ℕ) (made : List (ℕ × Entry)) → Wrote h n made → n < length h
wrote_below h n made is = below_length (λ (e : Entry). (e.act ≡ act.Enter) × (own n h ≡ e ∷ values_of made)) h n is

-- what is followed of a play is the play
next_played_is : (tag : ℕ) (w : Followed) (b : Bool) (f : Frame) → (next_followed tag w b f).played ≡ next_played w.played b f
next_played_is tag w true f = refl
next_played_is tag w false f = refl

follow_played : (tag : ℕ) (w : Followed) (o : Option ℕ) (f : Frame) → (follow_to o tag w f).played ≡ happens_to o w.played f
follow_played tag w (Some at) f = refl
follow_played tag w None f = next_played_is tag w (is_refused w.played.world f) f

all_played : (tag : ℕ) (frames : List Frame) (w : Followed) → (fold (follow tag) w frames).played ≡ play_from w.played frames
all_played tag [] w = refl
all_played tag (f ∷ fs) w = all_played tag fs (follow tag w f) ∙ ap (λ (p : Played). play_from p fs) (follow_played tag w w.played.refused f)

-- the run after an event of this tag
abbrev grown : TagRun → Event → List ℕ → TagRun
grown r e marks = record { number = r.number; events = r.events ++ e ∷ []; places = r.places ++ marks }

module _ (same : RunIsSame) (next : RunGoesOn) (one : CallsAddOne) (laws : Laws) (new_number : NextNumberIsFresh) (may : NextMayAsk) (keep : CallsKeepLegal) where
  run_longer : (c : Config) (old new : List Entry) (ms : List (List ℕ)) (r : TagRun) → IsPrefix old new → IsRun c old ms r → run_of c new r ≡ run_of c old r
  run_longer c old new ms r pre is = (same c r.number old new r.places r.events pre is.within).0

  is_longer : (c : Config) (old new : List Entry) (ms : List (List ℕ)) (r : TagRun) → IsPrefix old new → own r.number new ≡ own r.number old → IsRun c old ms r → IsRun c new ms r
  is_longer c old new ms r pre stays is =
      let eq : run_of c new r ≡ run_of c old r = run_longer c old new ms r pre is in
      record {
        sent = is.sent ∙ sym (ap (λ (d : Course). map bytes_of d.sent) eq);
        used = ap (λ (d : Course). d.places) eq ∙ is.used;
        fed = ap (λ (d : Course). d.short) eq ∙ is.fed;
        within = within_more (length old) (length new) r.places (prefix_length old new pre) is.within;
        rise = rises_wider (r.number + 1) r.places (length old) (length new) is.rise (prefix_length old new pre);
        heeds = (same c r.number old new r.places r.events pre is.within).1 is.heeds;
        made = subst (λ (d : Course). AllStand new d.made) (sym eq) (stand_longer old new (run_of c old r).made pre is.made);
        wrote = subst (λ (d : Course). Wrote new r.number d.made) (sym eq) (wrote-longer old new r.number (run_of c old r).made pre stays is.wrote);
      }

  goes_longer : (c : Config) (old new : List Entry) (ms : List (List ℕ)) (r : TagRun) (s : OpenSession) → IsPrefix old new → own r.number new ≡ own r.number old → Goes c old ms r s → Goes c new ms r s
  goes_longer c old new ms r s pre stays goes =
      let eq : run_of c new r ≡ run_of c old r = run_longer c old new ms r pre goes.is in
      let long : length old ≤ length new = prefix_length old new pre in
      let most : (run_of c old r).reach ≤ length new = let reach = goes.reach in omega arith in
      record {
        is = is_longer c old new ms r pre stays goes.is;
        number = goes.number;
        entries = goes.entries ∙ ap (λ (d : Course). own_number d.made) (sym eq);
        state = ap (λ (d : Course). d.state) eq ∙ goes.state;
        reach = subst (λ (d : Course). d.reach ≤ length new) (sym eq) most;
      }

  -- what others do changes nothing of it
  fits_longer : (c : Config) (old new : List Entry) (ms es : List (List ℕ)) (r : Option TagRun) (o : Option TagState) → IsPrefix old new → OwnStays old new r → Fits c old ms es r o → Fits c new ms es r o
  fits_longer c old new ms es None None pre stays fits = fits
  fits_longer c old new ms es None (Some Ended) pre stays fits = fits
  fits_longer c old new ms es None (Some (Open s)) pre stays fits = fits
  fits_longer c old new ms es (Some r) None pre stays fits = fits
  fits_longer c old new ms es (Some r) (Some Ended) pre stays fits =
      (is_longer c old new ms r pre stays fits.0, subst (λ (d : Course). IsEnd (end_of d.state.phase) es) (sym (run_longer c old new ms r pre fits.0)) fits.1)
  fits_longer c old new ms es (Some r) (Some (Open s)) pre stays fits = (goes_longer c old new ms r s pre stays fits.0, fits.1, fits.2)

  -- an event, before it is known whether the session has ended with it
  goes_on : (c : Config) (h : List Entry) (ms : List (List ℕ)) (r : TagRun) (s : OpenSession) (e : Event) → IfSome (takes s.session e).call (IsCallAt h) → Goes c h ms r s → IsHeeded (run_of c h r).reach e
      → let t = turned c h (moment_of e) s (takes s.session e).state (takes s.session e).call in
      Goes c t.journal (ms ++ map bytes_of t.session.session.out) (grown r e t.marks) (record { number = t.session.number; entries = t.session.entries; session = drained t.session.session })
  goes_on c h ms r s e asks goes heeded =
      let R : Course = run_of c h r in
      let t : Turn = turned c h (moment_of e) s (takes s.session e).state (takes s.session e).call in
      let pre : IsPrefix h t.journal = turned_prefix c h (moment_of e) s (takes s.session e).state (takes s.session e).call in
      let is : R ≡ course s.session [] R.sent R.made R.reach =
      ap (λ (x : State). course_of_parts x R.places R.short R.sent R.made R.reach) goes.state
      ∙ ap (λ (x : List ℕ). course_of_parts s.session x R.short R.sent R.made R.reach) goes.is.used
      ∙ ap (λ (x : Bool). course_of_parts s.session [] x R.sent R.made R.reach) goes.is.fed in
      let step = next c r.number h t.journal r.places t.marks r.events e s.session R.sent R.made R.reach pre goes.is.within is in
      let d : Course = asked c r.number t.journal (moment_of e) (course s.session t.marks R.sent R.made R.reach) (takes s.session e).state (takes s.session e).call in
      let eq : run_of c t.journal (grown r e t.marks) ≡ d = step.0 in
      let at : Comes h t R.sent R.made d = comes one laws.own_entries c r.number h (moment_of e) s R.sent R.made R.reach goes.number goes.entries goes.reach (takes s.session e).state (takes s.session e).call asks in
      let number : t.session.number ≡ r.number = turned_number c h (moment_of e) s (takes s.session e).state (takes s.session e).call ∙ goes.number in
      record {
        is = record {
          sent = ap (λ l. l ++ map bytes_of t.session.session.out) goes.is.sent ∙ sym (map-append bytes_of R.sent t.session.session.out) ∙ ap (map bytes_of) (sym at.sent) ∙ sym (ap (λ (x : Course). map bytes_of x.sent) eq);
          used = ap (λ (x : Course). x.places) eq ∙ at.places;
          fed = ap (λ (x : Course). x.short) eq ∙ at.short;
          within = within_both (length t.journal) r.places t.marks (within_more (length h) (length t.journal) r.places (prefix_length h t.journal pre) goes.is.within) at.marks;
          rise = fall-turned c h (moment_of e) s (takes s.session e).state (takes s.session e).call (r.number + 1) r.places goes.is.rise;
          heeds = step.1 goes.is.heeds heeded;
          made = subst (λ (x : Course). AllStand t.journal x.made) (sym eq) (at.stand goes.is.made);
          wrote = subst (λ (x : Course). Wrote t.journal r.number x.made) (sym eq)
              (subst (λ (k : ℕ). Wrote t.journal k d.made) number (at.wrote (subst (λ (k : ℕ). Wrote h k R.made) (sym number) goes.is.wrote)));
        };
        number = number;
        entries = at.entries ∙ ap (λ (x : Course). own_number x.made) (sym eq);
        state = ap (λ (x : Course). x.state) eq ∙ at.state;
        reach = subst (λ (x : Course). x.reach ≤ length t.journal) (sym eq) at.reach;
      }
    where
      turned_number : (c : Config) (h : List Entry) (at : ℤ) (s : OpenSession) (st : State) (o : Option StoreCall) → (turned c h at s st o).session.number ≡ s.number
      turned_number c h at s st None = refl
      turned_number c h at s st (Some call) = refl

  -- the same, once it is known
  after_fits : (c : Config) (tag : ℕ) (f : Frame) (t : Turn) (ms es : List (List ℕ)) (r : TagRun) (o : Option End) → (f.tag == tag) ≡ true → end_of t.session.session.phase ≡ o → es ≡ []
      → Goes c t.journal (ms ++ map bytes_of t.session.session.out) r (record { number = t.session.number; entries = t.session.entries; session = drained t.session.session })
      → let e = effect_after f t o in Fits c e.journal (ms ++ payloads_to 17 tag e.answers) (es ++ payloads_to 19 tag e.answers) (Some r) (Some e.tag)
  after_fits c tag f t ms es r None is end_is none goes = (
    subst (λ l. Goes c t.journal (ms ++ l) r (record { number = t.session.number; entries = t.session.entries; session = drained t.session.session })) (sym (own_messages tag f t.session.session.out is)) goes,
    ap (λ l. l ++ payloads_to 19 tag (messages f t.session.session.out)) none ∙ no_ends tag f t.session.session.out,
    end_is,
  )
  after_fits c tag f t ms es r (Some e) is end_is none goes =
      let sent : payloads_to 17 tag (messages f t.session.session.out ++ end_frame f (Session e) ∷ []) ≡ map bytes_of t.session.session.out =
      ended_messages tag f t.session.session.out (Session e) ∙ own_messages tag f t.session.session.out is in
      let end : es ++ payloads_to 19 tag (messages f t.session.session.out ++ end_frame f (Session e) ∷ []) ≡ session_end_bytes e ∷ [] =
      ap (λ l. l ++ payloads_to 19 tag (messages f t.session.session.out ++ end_frame f (Session e) ∷ [])) none ∙ ended_ends tag f t.session.session.out (Session e) ∙ own_end tag f (Session e) is in
      let ended : end_of (run_of c t.journal r).state.phase ≡ Some e = ap (λ (x : State). end_of x.phase) goes.state ∙ end_is in (
        subst (λ l. IsRun c t.journal (ms ++ l) r) (sym sent) goes.is,
        subst (λ (o : Option End). IsEnd o (es ++ payloads_to 19 tag (messages f t.session.session.out ++ end_frame f (Session e) ∷ []))) (sym ended) end,
      )

  kind_fits : (c : Config) (tag : ℕ) (ms es : List (List ℕ)) (b : Bool) (x y : Effect) (q r : TagRun)
      → Fits c x.journal (ms ++ payloads_to 17 tag x.answers) (es ++ payloads_to 19 tag x.answers) (Some q) (Some x.tag)
      → Fits c y.journal (ms ++ payloads_to 17 tag y.answers) (es ++ payloads_to 19 tag y.answers) (Some r) (Some y.tag)
      → Fits c (if b then x else y).journal (ms ++ payloads_to 17 tag (if b then x else y).answers) (es ++ payloads_to 19 tag (if b then x else y).answers) (Some (if b then q else r)) (Some (if b then x else y).tag)
  kind_fits c tag ms es true x y q r p u = p
  kind_fits c tag ms es false x y q r p u = u

  -- the client's end
  peer_ended : (c : Config) (h : List Entry) (tag : ℕ) (f : Frame) (ms es : List (List ℕ)) (r : TagRun) (s : OpenSession) → (f.tag == tag) ≡ true → Goes c h ms r s → es ≡ [] → end_of s.session.phase ≡ None
      → IsRun c h (ms ++ []) r × IsEnd (end_of (run_of c h r).state.phase) (es ++ payloads_to 19 tag (end_frame f PeerEnd ∷ []))
  peer_ended c h tag f ms es r s is goes none going =
      let end : es ++ payloads_to 19 tag (end_frame f PeerEnd ∷ []) ≡ ending_bytes PeerEnd ∷ [] =
      ap (λ l. l ++ payloads_to 19 tag (end_frame f PeerEnd ∷ [])) none ∙ own_end tag f PeerEnd is in
      let open_is : end_of (run_of c h r).state.phase ≡ None = ap (λ (x : State). end_of x.phase) goes.state ∙ going in (
        subst (λ l. IsRun c h l r) (sym (append-nil ms)) goes.is,
        subst (λ (o : Option End). IsEnd o (es ++ payloads_to 19 tag (end_frame f PeerEnd ∷ []))) (sym open_is) (inr end),
      )

  -- a frame of an open session
  open_fits : (c : Config) (h : List Entry) (tag : ℕ) (f : Frame) (ms es : List (List ℕ)) (r : TagRun) (s : OpenSession) → (f.tag == tag) ≡ true → Goes c h ms r s → es ≡ [] → end_of s.session.phase ≡ None
      → let e = effect_open c h s f in Fits c e.journal (ms ++ payloads_to 17 tag e.answers) (es ++ payloads_to 19 tag e.answers) (Some (run_with c h s f r)) (Some e.tag)
  open_fits c h tag f ms es r s is goes none going =
      let asks : IfSome (takes s.session (event_of h f)).call (IsCallAt h) = asks_call (takes s.session (event_of h f)).call h (laws.asks s.session (event_of h f)) in
      kind_fits c tag ms es (f.kind == 3) (record { journal = h; tag = Ended; answers = end_frame f PeerEnd ∷ [] }) (effect_after f (turn c h s f) (end_of (turn c h s f).session.session.phase))
      r (grown r (event_of h f) (turn c h s f).marks)
      (peer_ended c h tag f ms es r s is goes none going)
      (after_fits c tag f (turn c h s f) ms es (grown r (event_of h f) (turn c h s f).marks) (end_of (turn c h s f).session.session.phase) is refl none
      (goes_on c h ms r s (event_of h f) asks goes (is_heeded h (run_of c h r).reach f (f.kind == 1) goes.reach)))

  -- a session that has just entered
  first_goes : (c : Config) (h : List Entry) (n : ℕ) → n + 1 ≤ length h → Wrote h n [] → Goes c h [] (first_run n) (first_open c n)
  first_goes c h n le wrote = record {
    is = record { sent = refl; used = refl; fed = refl; within = tt; rise = le; heeds = tt; made = tt; wrote = wrote };
    number = refl;
    entries = refl;
    state = refl;
    reach = le;
  }

  entered_fits : (c : Config) (h : List Entry) (tag : ℕ) (f : Frame) (o : Option ℕ) → (f.tag == tag) ≡ true → ((n : ℕ) → o ≡ Some n → n + 1 ≤ length h) → ((n : ℕ) → o ≡ Some n → Wrote h n [])
      → let e = effect_entered c h f o in Fits c e.journal (payloads_to 17 tag e.answers) (payloads_to 19 tag e.answers) (run_entered c h f o) (Some e.tag)
  entered_fits c h tag f None is within wrote = (refl, own_end tag f JournalFull is)
  entered_fits c h tag f (Some n) is within wrote =
      open_fits c h tag f [] [] (first_run n) (first_open c n) is (first_goes c h n (within n refl) (wrote n refl)) refl refl

  -- a frame of this tag
  at_fits : (c : Config) (h : List Entry) (tag : ℕ) (f : Frame) (ms es : List (List ℕ)) (r : Option TagRun) (o : Option TagState) → (f.tag == tag) ≡ true → own (length h) h ≡ [] → FitsTag h o → Fits c h ms es r o
      → let e = effect_at c h f o in Fits c e.journal (ms ++ payloads_to 17 tag e.answers) (es ++ payloads_to 19 tag e.answers) (run_after c h f r o) (Some e.tag)
  at_fits c h tag f ms es None None is fresh sound fits =
      let e : Effect = effect_new c h f in
      let q : Option TagRun = run_entered c (entered_journal c h f) f (entered_place c h) in
      subst (λ l. Fits c e.journal (l ++ payloads_to 17 tag e.answers) (es ++ payloads_to 19 tag e.answers) q (Some e.tag)) (sym fits.0)
      (subst (λ l. Fits c e.journal (payloads_to 17 tag e.answers) (l ++ payloads_to 19 tag e.answers) q (Some e.tag)) (sym fits.1)
      (entered_fits c (entered_journal c h f) tag f (entered_place c h) is (entered_within c h f) (λ n place. entered-wrote c h f n fresh place)))
  at_fits c h tag f ms es None (Some Ended) is fresh sound fits = (append-nil ms ∙ fits.0, append-nil es ∙ fits.1)
  at_fits c h tag f ms es None (Some (Open s)) is fresh sound fits = absurd fits
  at_fits c h tag f ms es (Some r) None is fresh sound fits = absurd fits
  at_fits c h tag f ms es (Some r) (Some Ended) is fresh sound fits =
      (subst (λ l. IsRun c h l r) (sym (append-nil ms)) fits.0, subst (λ l. IsEnd (end_of (run_of c h r).state.phase) l) (sym (append-nil es)) fits.1)
  at_fits c h tag f ms es (Some r) (Some (Open s)) is fresh sound fits = open_fits c h tag f ms es r s is fits.0 fits.1 fits.2

  -- ---- a play

  -- the frames so far that go to a tag fit its session's run
  abbrev FitsAll : Config → ℕ → List Entry → List Frame → Option TagRun → Option TagState → Type 0
  FitsAll c tag h answers r o = Fits c h (payloads_to 17 tag answers) (payloads_to 19 tag answers) r o

  -- what is followed of a play fits it
  record Fine (c : Config) (tag : ℕ) (w : Followed) : Type 0 where
    config : w.played.world.config ≡ c
    sound : IsSound w.played.world
    legal : Legal c w.played.world.journal
    apart : IsApart tag w.run w.played.world.tags
    fits : FitsAll c tag w.played.world.journal w.played.answers w.run (state_of tag w.played.world.tags)

  -- the answers to a frame join those before it
  joined : (c : Config) (tag : ℕ) (h : List Entry) (answers more : List Frame) (r : Option TagRun) (o : Option TagState)
      → Fits c h (payloads_to 17 tag answers ++ payloads_to 17 tag more) (payloads_to 19 tag answers ++ payloads_to 19 tag more) r o → FitsAll c tag h (answers ++ more) r o
  joined c tag h answers more r o fits =
      subst (λ l. Fits c h l (payloads_to 19 tag (answers ++ more)) r o) (sym (to_both 17 tag answers more))
      (subst (λ l. Fits c h (payloads_to 17 tag answers ++ payloads_to 17 tag more) l r o) (sym (to_both 19 tag answers more)) fits)

  -- an accepted frame
  world_fits : (c : Config) (tag : ℕ) (w : World) (f : Frame) (answers : List Frame) (r : Option TagRun) (b : Bool) → (f.tag == tag) ≡ b → w.config ≡ c → IsSound w → own (length w.journal) w.journal ≡ [] → OwnStays w.journal (effect w f).journal (cond b None r)
      → FitsAll c tag w.journal answers r (state_of tag w.tags)
      → FitsAll c tag (effect w f).journal (answers ++ (effect w f).answers) (if b then run_after w.config w.journal f r (state_of tag w.tags) else r) (state_of tag (with_tag f.tag (effect w f).tag w.tags))
  world_fits c tag w f answers r true is config sound fresh stays fits =
      let tags : f.tag ≡ tag = same_tags f.tag tag is in
      let o : Option TagState = state_of tag w.tags in
      let state : state_of f.tag w.tags ≡ o = ap (λ (k : ℕ). state_of k w.tags) tags in
      let e : Effect = effect_at c w.journal f o in
      let effect_is : effect w f ≡ e = ap (λ (k : Config). effect_at k w.journal f (state_of f.tag w.tags)) config ∙ ap (effect_at c w.journal f) state in
      let here : Fits c e.journal (payloads_to 17 tag answers ++ payloads_to 17 tag e.answers) (payloads_to 19 tag answers ++ payloads_to 19 tag e.answers) (run_after c w.journal f r o) (Some e.tag) =
      at_fits c w.journal tag f (payloads_to 17 tag answers) (payloads_to 19 tag answers) r o is fresh (sound.fits tag) fits in
      let found : state_of tag (with_tag f.tag (effect w f).tag w.tags) ≡ Some (effect w f).tag =
      put_found f.tag (effect w f).tag tag w.tags ∙ ap (λ t. cond t (Some (effect w f).tag) o) (subst (λ (k : ℕ). is_at (nat_cmp f.tag) k ≡ true) tags (at_self f.tag)) in
      let moved : FitsAll c tag e.journal (answers ++ e.answers) (run_after w.config w.journal f r o) (Some e.tag) =
      subst (λ (k : Config). FitsAll c tag e.journal (answers ++ e.answers) (run_after k w.journal f r o) (Some e.tag)) (sym config)
      (joined c tag e.journal answers e.answers (run_after c w.journal f r o) (Some e.tag) here) in
      subst (λ (x : Option TagState). FitsAll c tag (effect w f).journal (answers ++ (effect w f).answers) (run_after w.config w.journal f r o) x) (sym found)
      (subst (λ (x : Effect). FitsAll c tag x.journal (answers ++ x.answers) (run_after w.config w.journal f r o) (Some x.tag)) (sym effect_is) moved)
  world_fits c tag w f answers r false is config sound fresh stays fits =
      let o : Option TagState = state_of tag w.tags in
      let found : state_of tag (with_tag f.tag (effect w f).tag w.tags) ≡ o =
      put_found f.tag (effect w f).tag tag w.tags ∙ ap (λ t. cond t (Some (effect w f).tag) o) (at_other f.tag tag is) in
      let no_more = at_others w.config w.journal f tag (state_of f.tag w.tags) is in
      let more : List Frame = (effect w f).answers in
      let longer : Fits c (effect w f).journal (payloads_to 17 tag answers) (payloads_to 19 tag answers) r o =
      fits_longer c w.journal (effect w f).journal (payloads_to 17 tag answers) (payloads_to 19 tag answers) r o (at_prefix w.config w.journal f (state_of f.tag w.tags)) stays fits in
      let sent : payloads_to 17 tag answers ++ payloads_to 17 tag more ≡ payloads_to 17 tag answers = ap (λ l. payloads_to 17 tag answers ++ l) no_more.0 ∙ append-nil (payloads_to 17 tag answers) in
      let ends : payloads_to 19 tag answers ++ payloads_to 19 tag more ≡ payloads_to 19 tag answers = ap (λ l. payloads_to 19 tag answers ++ l) no_more.1 ∙ append-nil (payloads_to 19 tag answers) in
      subst (λ (x : Option TagState). FitsAll c tag (effect w f).journal (answers ++ more) r x) (sym found)
      (joined c tag (effect w f).journal answers more r o
      (subst (λ l. Fits c (effect w f).journal l (payloads_to 19 tag answers ++ payloads_to 19 tag more) r o) (sym sent)
      (subst (λ l. Fits c (effect w f).journal (payloads_to 17 tag answers) l r o) (sym ends) longer)))

  -- the number of the tag's session is below the journal's length
  run_below : (c : Config) (h : List Entry) (ms es : List (List ℕ)) (r : Option TagRun) (o : Option TagState) → Fits c h ms es r o → IsBelow (length h) r
  run_below c h ms es None o fits = tt
  run_below c h ms es (Some r) None fits = absurd fits
  run_below c h ms es (Some r) (Some Ended) fits = wrote_below h r.number (run_of c h r).made fits.0.wrote
  run_below c h ms es (Some r) (Some (Open s)) fits = let goes : Goes c h ms r s = fits.0 in wrote_below h r.number (run_of c h r).made goes.is.wrote

  -- the tag's session stays apart from the others
  world_apart : (tag : ℕ) (w : World) (f : Frame) (r : Option TagRun) (b : Bool) → (f.tag == tag) ≡ b → IsSound w → IsBelow (length w.journal) r → IsApart tag r w.tags
      → TagFits (number_in w.journal (state_of f.tag w.tags)) (effect w f).journal (effect w f).tag
      → IsApart tag (if b then run_after w.config w.journal f r (state_of tag w.tags) else r) (with_tag f.tag (effect w f).tag w.tags)
  world_apart tag w f r true is sound below apart fits =
      let tags : f.tag ≡ tag = same_tags f.tag tag is in
      let at_tag : TagFits (number_in w.journal (state_of tag w.tags)) (effect w f).journal (effect w f).tag =
      subst (λ (k : ℕ). TagFits (number_in w.journal (state_of k w.tags)) (effect w f).journal (effect w f).tag) tags fits in
      subst (λ (k : ℕ). IsApart tag (run_after w.config w.journal f r (state_of tag w.tags)) (with_tag k (effect w f).tag w.tags)) (sym tags)
      (own_apart tag w f r (state_of tag w.tags) (effect w f).journal (effect w f).tag sound below at_tag apart)
  world_apart tag w f r false is sound below apart fits = other_apart tag w f.tag r (effect w f).journal (effect w f).tag below fits apart

  -- a frame of another tag writes nothing of this one's session
  world_stays : (tag : ℕ) (w : World) (f : Frame) (r : Option TagRun) (b : Bool) → (f.tag == tag) ≡ b → IsBelow (length w.journal) r → IsApart tag r w.tags
      → Grows (number_in w.journal (state_of f.tag w.tags)) w.journal (effect w f).journal → OwnStays w.journal (effect w f).journal (cond b None r)
  world_stays tag w f r true is below apart grows = tt
  world_stays tag w f r false is below apart grows = own_stays tag f.tag w.journal (effect w f).journal w.tags r (other_tags f.tag tag is) below grows apart

  next_fine : (c : Config) (tag : ℕ) (w : Followed) (b : Bool) (f : Frame) → is_refused w.played.world f ≡ b → Fine c tag w → Fine c tag (next_followed tag w b f)
  next_fine c tag w true f is fine = record { config = fine.config; sound = fine.sound; legal = fine.legal; apart = fine.apart; fits = fine.fits }
  next_fine c tag w false f is fine =
      let v : World = w.played.world in
      let e : Effect = effect v f in
      let fresh : own (length v.journal) v.journal ≡ [] = new_number c v.journal fine.legal in
      let here : has_ended (state_of f.tag v.tags) ≡ false = last_false (f.kind == 17) (f.kind == 19) (has_ended (state_of f.tag v.tags)) is in
      let effect_is = effect_fits laws v.config v.journal f (state_of f.tag v.tags) fresh here (fine.sound.fits f.tag) in
      let below : IsBelow (length v.journal) w.run = run_below c v.journal (payloads_to 17 tag w.played.answers) (payloads_to 19 tag w.played.answers) w.run (state_of tag v.tags) fine.fits in
      let stays : OwnStays v.journal e.journal (cond (f.tag == tag) None w.run) = world_stays tag v f w.run (f.tag == tag) refl below fine.apart effect_is.grows in
      record {
        config = fine.config;
        sound = sound_put laws v f.tag e.journal e.tag (with_tag f.tag e.tag v.tags) fine.sound effect_is.grows effect_is.tag (λ q. put_found f.tag e.tag q v.tags);
        legal = subst (λ (k : Config). Legal k e.journal) fine.config
            (at_legal laws may keep v.config v.journal f (state_of f.tag v.tags) fresh (fine.sound.fits f.tag) (subst (λ (k : Config). Legal k v.journal) (sym fine.config) fine.legal));
        apart = world_apart tag v f w.run (f.tag == tag) refl fine.sound below fine.apart effect_is.tag;
        fits = world_fits c tag v f w.played.answers w.run (f.tag == tag) refl fine.config fine.sound fresh stays fine.fits;
      }

  follow_fine : (c : Config) (tag : ℕ) (w : Followed) (o : Option ℕ) (f : Frame) → Fine c tag w → Fine c tag (follow_to o tag w f)
  follow_fine c tag w (Some at) f fine = fine
  follow_fine c tag w None f fine = next_fine c tag w (is_refused w.played.world f) f refl fine

  all_fine : (c : Config) (tag : ℕ) (frames : List Frame) (w : Followed) → Fine c tag w → Fine c tag (fold (follow tag) w frames)
  all_fine c tag [] w fine = fine
  all_fine c tag (f ∷ fs) w fine = all_fine c tag fs (follow tag w f) (follow_fine c tag w w.played.refused f fine)

  sent_of : (c : Config) (h : List Entry) (ms es : List (List ℕ)) (r : Option TagRun) (o : Option TagState) → Fits c h ms es r o → IsSent c h ms es r
  sent_of c h ms es None None fits = (fits.0, inl fits.1)
  sent_of c h ms es None (Some Ended) fits = (fits.0, inr fits.1)
  sent_of c h ms es None (Some (Open s)) fits = absurd fits
  sent_of c h ms es (Some r) None fits = absurd fits
  sent_of c h ms es (Some r) (Some Ended) fits = fits
  sent_of c h ms es (Some r) (Some (Open s)) fits =
      let goes : Goes c h ms r s = fits.0 in
      let open_is : end_of (run_of c h r).state.phase ≡ None = ap (λ (x : State). end_of x.phase) goes.state ∙ fits.2 in
      (goes.is, subst (λ (x : Option End). IsEnd x es) (sym open_is) (inl fits.1))

  pub play_is_runs : PlayIsRuns
  play_is_runs c tag frames =
      let w : Followed = followed c tag frames in
      let fine = all_fine c tag frames (first_followed c) (record { config = refl; sound = first_sound c; legal = (refl, tt); apart = tt; fits = (refl, refl) }) in
      let played : w.played ≡ play c frames = all_played tag frames (first_followed c) in
      let ms : List (List ℕ) = payloads_to 17 tag w.played.answers in
      let es : List (List ℕ) = payloads_to 19 tag w.played.answers in
      record {
        played = played;
        legal = subst (λ (p : Played). Legal c p.world.journal) played fine.legal;
        sent = subst (λ (p : Played). IsSent c p.world.journal (payloads_to 17 tag p.answers) (payloads_to 19 tag p.answers) w.run) played
            (sent_of c w.played.world.journal ms es w.run (state_of tag w.played.world.tags) fine.fits);
      }
