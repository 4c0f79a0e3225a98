-- What a play is to one tag: the run of the tag's session over the journal.
use Rattle.std.specs.Prelude.{◌≡◌, ◌⊎◌, ℕ, ◌+◌, Bool, true, false, List, [], ◌∷◌, ◌++◌, ◌==◌, ◌&&◌, if◌then◌else◌, length, map, filter, fold, slice_get, Option, None, Some, IsSomeAnd}
use Rattle.std.specs.Option.{option_map}
use Rattle.std.specs.Map.{values_of}
use Rattle.etp_values.specs.Rising.{Rises}
use Rattle.etp_capture.specs.Kinds.{kind_end, kind_out, kind_ended}
use Rattle.etp_capture.specs.declared.frame.Frame.{Frame}
use Rattle.server_config.specs.declared.config.Config.{Config}
use Rattle.store_machine.specs.declared.journal.Act.TheVariants.{Enter}
use Rattle.store_machine.specs.declared.journal.Entry.{Entry}
use Rattle.store_machine.specs.Legal.{Legal, own}
use Rattle.session_core.specs.Arriving.{Event}
use Rattle.session_core.specs.Run.{Course, run, Heeds, AllWithin}
use Rattle.session_core.specs.Session.{bytes_of, end_of}
use Rattle.session_core.specs.declared.state.End.{End}
use Rattle.tool_forms.specs.Turns.{ending_bytes, session_end_bytes, event_of, turn, first_open, entered_journal, entered_place}
use Rattle.tool_forms.specs.Play.{Played, first, next_played, is_refused, state_of, play}
use Rattle.tool_forms.specs.declared.tag.TagState.{TagState}
use Rattle.tool_forms.specs.declared.tag.TagState.TheVariants.{Ended, Open}
use Rattle.tool_forms.specs.declared.tag.OpenSession.{OpenSession}
use Rattle.tool_forms.specs.declared.tag.Ending.TheVariants.{PeerEnd, JournalFull}

-- what a tag's session was given: its number, its events, and the lengths of the journal at which its calls were answered
pub record TagRun : Type 0 where
  pub number : ℕ
  pub events : List Event
  pub places : List ℕ

-- a session that entered at this place
abbrev pub first_run : ℕ → TagRun
first_run n = record { number = n; events = []; places = [] }

-- an open session takes a frame; its client's end is not an event
abbrev pub run_with : Config → List Entry → OpenSession → Frame → TagRun → TagRun
run_with c h s f r =
    if f.kind == kind_end then r
    else record { number = r.number; events = r.events ++ event_of h f ∷ []; places = r.places ++ (turn c h s f).marks }

-- the first frame of a tag, after the store was asked to let its session in
abbrev pub run_entered : Config → List Entry → Frame → Option ℕ → Option TagRun
run_entered c h f None = None
run_entered c h f (Some n) = Some (run_with c h (first_open c n) f (first_run n))

-- a frame of the tag, by the tag's state
abbrev pub run_after : Config → List Entry → Frame → Option TagRun → Option TagState → Option TagRun
run_after c h f r None = run_entered c (entered_journal c h f) f (entered_place c h)
run_after c h f r (Some (Open s)) = option_map (run_with c h s f) r
run_after c h f r (Some Ended) = r

-- a play so far, in which one tag is followed
pub record Followed : Type 0 where
  pub played : Played
  pub run : Option TagRun

-- a play over no frames
abbrev pub first_followed : Config → Followed
first_followed c = record { played = first c; run = None }

-- one more frame, refused or not
abbrev pub next_followed : ℕ → Followed → Bool → Frame → Followed
next_followed tag w true f = record { played = next_played w.played true f; run = w.run }
next_followed tag w false f =
    let world = w.played.world in
    record {
      played = next_played w.played false f;
      run = if f.tag == tag then run_after world.config world.journal f w.run (state_of tag world.tags) else w.run;
    }

-- after a refused frame nothing happens
abbrev pub follow_to : Option ℕ → ℕ → Followed → Frame → Followed
follow_to (Some o) tag w f = w
follow_to None tag w f = next_followed tag w (is_refused w.played.world f) f

-- one more frame
abbrev pub follow : ℕ → Followed → Frame → Followed
follow tag w f = follow_to w.played.refused tag w f

-- a whole play, in which this tag is followed
abbrev pub followed : Config → ℕ → List Frame → Followed
followed c tag frames = fold (follow tag) (first_followed c) frames

-- the payloads of the frames of a kind that go to a tag: its messages, or its end
abbrev pub payloads_to : ℕ → ℕ → List Frame → List (List ℕ)
payloads_to kind tag answers = map (λ f. f.bytes) (filter (λ f. f.kind == kind && f.tag == tag) answers)

-- each of these entries is in the journal at its place
abbrev pub AllStand : List Entry → List (ℕ × Entry) → Type 0
AllStand h [] = Unit {0}
AllStand h (x ∷ xs) = (slice_get h x.0 ≡ Some x.1) × AllStand h xs

-- all that a session wrote: the entry of its entering, which is at its number, and then these
abbrev pub Wrote : List Entry → ℕ → List (ℕ × Entry) → Type 0
Wrote h n made = IsSomeAnd (slice_get h n) (λ (e : Entry). (e.act ≡ Enter) × (own n h ≡ e ∷ values_of made))

-- the run of a tag's session over a journal
abbrev pub run_of : Config → List Entry → TagRun → Course
run_of c h r = run c r.number h r.places r.events

-- the messages are what the run sends. Each call has its place, no place is left, and none is past the journal; the places never fall, from
-- the session's entering on; each poll reports no less than was seen; and the entries that the run makes are at their places and are all
-- that the session wrote
pub record IsRun (c : Config) (h : List Entry) (messages : List (List ℕ)) (r : TagRun) : Type 0 where
  pub sent : messages ≡ map bytes_of (run_of c h r).sent
  pub used : (run_of c h r).places ≡ []
  pub fed : (run_of c h r).short ≡ false
  pub within : AllWithin (length h) r.places
  pub rise : Rises (r.number + 1) r.places (length h)
  pub heeds : Heeds c r.number h r.places r.events
  pub made : AllStand h (run_of c h r).made
  pub wrote : Wrote h r.number (run_of c h r).made

-- the end frames of a tag, by the end of its session's run: a session that has not ended by its own rules may have been ended
-- by its client
abbrev pub IsEnd : Option End → List (List ℕ) → Type 0
IsEnd None endings = (endings ≡ []) ⊎ (endings ≡ ending_bytes PeerEnd ∷ [])
IsEnd (Some e) endings = endings ≡ session_end_bytes e ∷ []

-- what a tag is sent. One without a session that entered has no message, and at most the end that says so
abbrev pub IsSent : Config → List Entry → List (List ℕ) → List (List ℕ) → Option TagRun → Type 0
IsSent c h messages endings None = (messages ≡ []) × ((endings ≡ []) ⊎ (endings ≡ ending_bytes JournalFull ∷ []))
IsSent c h messages endings (Some r) = IsRun c h messages r × IsEnd (end_of (run_of c h r).state.phase) endings

-- a play's journal is legal, and those of its answers that go to a tag are the messages and the end of the run of the tag's session
-- over the journal
pub record IsFollowed (c : Config) (tag : ℕ) (frames : List Frame) : Type 0 where
  pub played : (followed c tag frames).played ≡ play c frames
  pub legal : Legal c (play c frames).world.journal
  pub sent : let p = play c frames in IsSent c p.world.journal (payloads_to kind_out tag p.answers) (payloads_to kind_ended tag p.answers) (followed c tag frames).run

-- the same for every play and every tag
abbrev pub PlayIsRuns : Type 0
PlayIsRuns = (c : Config) (tag : ℕ) (frames : List Frame) → IsFollowed c tag frames
