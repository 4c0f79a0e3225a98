-- A run of one session over a history: its calls are answered after the entries below places that are given with it.
use Rattle.std.specs.Prelude.{ℕ, ℤ, pos, Bool, true, false, List, [], ◌∷◌, ◌++◌, ◌+◌, ◌≤◌, ◌≡◌, Option, Some, None, IfSome, fold, map, take, length}
use mathlib.Core.List.{IsPrefix}
use Rattle.server_config.specs.declared.config.Config.{Config}
use Rattle.store_machine.specs.declared.journal.Entry.{Entry}
use Rattle.store_machine.specs.declared.call.Answer.{Answer}
use Rattle.store_machine.specs.declared.call.StoreCall.{StoreCall}
use Rattle.store_machine.specs.Answers.{answered, added}
use Rattle.store_machine.specs.Laws.{IsCallAt}
use Rattle.session_core.specs.declared.state.Outgoing.{Outgoing}
use Rattle.session_core.specs.State.{State, first_state}
use Rattle.session_core.specs.Arriving.{Event, Receives, Polls}
use Rattle.session_core.specs.Machine.{Taken, taken, given}

-- ---- the two halves of a step, for those who have no need to look inside

-- the state in which an event leaves a session, and the call that the store has to answer
unfoldable pub takes : State → Event → Taken
takes s e = taken s e

-- the state after the answer to that call
unfoldable pub hears : State → Answer → State
hears s a = given s a

-- a call that a session may make, whatever the history is
abbrev pub Asks : StoreCall → Type 0
Asks call = (h : List Entry) → IsCallAt h call

-- the state once all is sent
abbrev pub drained : State → State
drained s = record s { out = [] }

-- the moment of an event, which its entry has; no poll has an entry
abbrev pub moment_of : Event → ℤ
moment_of (Receives bytes moment) = moment
moment_of (Polls front) = pos 0

-- the entries, each with this place
abbrev pub at_place : ℕ → List Entry → List (ℕ × Entry)
at_place place entries = map (λ e. (place, e)) entries

-- ---- the run

-- how far a run has come
pub record Course : Type 0 where
  pub state : State
  -- the places that no call has used yet
  pub places : List ℕ
  -- what was sent, and the session's own entries with their places, except for the one that entered it
  pub sent : List Outgoing
  pub made : List (ℕ × Entry)
  -- a call has no place, and the run has stopped before its answer
  pub short : Bool
  -- how much of the history the session has seen
  pub reach : ℕ

-- the course of the session that entered at place `n`, before its first event
abbrev pub first_course : Config → ℕ → List ℕ → Course
first_course config n places = record { state = first_state config n (pos 1); places = places; sent = []; made = []; short = false; reach = n + 1 }

-- the course after an event that led to this state, with what is left of the places, the entries so far, and what was seen
abbrev pub tells : Course → State → List ℕ → List (ℕ × Entry) → ℕ → Course
tells c s places made reach = record { state = drained s; places = places; sent = c.sent ++ s.out; made = made; short = false; reach = reach }

-- the course once no place is left for a call: what was queued before it is sent
abbrev pub stops_short : Course → State → Course
stops_short c s = record { state = drained s; places = []; sent = c.sent ++ s.out; made = c.made; short = true; reach = c.reach }

-- an entry's number follows the session's earlier ones, of which the first is that of its entering
abbrev pub own_number : List (ℕ × Entry) → ℕ
own_number made = length made + 1

-- an event leaves the session's reach within the history that it was informed of
abbrev pub IsHeeded : ℕ → Event → Type 0
IsHeeded reach (Receives bytes moment) = Unit {0}
IsHeeded reach (Polls front) = reach ≤ front

module _ (config : Config) (n : ℕ) (h : List Entry) where
  -- the course once a call is answered after the entries below the first of these places
  abbrev pub answered_at : ℤ → Course → State → StoreCall → List ℕ → Course
  answered_at at c s call [] = stops_short c s
  answered_at at c s call (p ∷ ps) =
      let entries = added config (take p h) n (own_number c.made) at call in
      tells c (hears s (answered config (take p h) call)) ps (c.made ++ at_place p entries) (p + length entries)

  -- the course once the call of an event, if it has one, is answered
  abbrev pub asked : ℤ → Course → State → Option StoreCall → Course
  asked at c s None = tells c s c.places c.made c.reach
  asked at c s (Some call) = answered_at at c s call c.places

  -- a run that has stopped short stays as it is
  abbrev pub happens_unless : Bool → Course → Event → Course
  happens_unless true c e = c
  happens_unless false c e = asked (moment_of e) c (takes c.state e).state (takes c.state e).call

  -- the course after one more event
  abbrev pub happens : Course → Event → Course
  happens c e = happens_unless c.short c e

  -- the course after these events
  abbrev pub run_from : Course → List Event → Course
  run_from c es = fold happens c es

  -- the run of the session that entered at place `n`; `places` are those of its calls after that. A session that has ended
  -- takes nothing, so the run ends with it
  abbrev pub run : List ℕ → List Event → Course
  run places es = run_from (first_course config n places) es

  -- each poll of these events reports no less than was seen before
  abbrev pub HeedsFrom : Course → List Event → Type 0
  HeedsFrom c [] = Unit {0}
  HeedsFrom c (e ∷ es) = IsHeeded c.reach e × HeedsFrom (happens c e) es

  -- the same for a whole run
  abbrev pub Heeds : List ℕ → List Event → Type 0
  Heeds places es = HeedsFrom (first_course config n places) es

-- ---- the same on one thread: each call is answered after the whole history so far, to which its entries are added

-- how far a session has come on one thread
pub record Played : Type 0 where
  pub state : State
  pub history : List Entry
  -- the lengths of the history at which calls were answered
  pub marks : List ℕ
  pub sent : List Outgoing
  pub made : List (ℕ × Entry)
  pub reach : ℕ

-- a session that entered at place `n`, with the history before its first event
abbrev pub first_played : Config → ℕ → List Entry → Played
first_played config n h = record { state = first_state config n (pos 1); history = h; marks = []; sent = []; made = []; reach = n + 1 }

-- an event comes after others added these entries
pub record Step : Type 0 where
  pub others : List Entry
  pub event : Event

module _ (config : Config) (n : ℕ) where
  -- what the call of an event, if it has one, does after this history
  abbrev pub played_call : ℤ → Played → List Entry → State → Option StoreCall → Played
  played_call at r h s None = record { state = drained s; history = h; marks = r.marks; sent = r.sent ++ s.out; made = r.made; reach = r.reach }
  played_call at r h s (Some call) =
      let t = hears s (answered config h call) in
      let entries = added config h n (own_number r.made) at call in
      record {
        state = drained t;
        history = h ++ entries;
        marks = r.marks ++ length h ∷ [];
        sent = r.sent ++ t.out;
        made = r.made ++ at_place (length h) entries;
        reach = length h + length entries;
      }

  -- one more event
  abbrev pub plays : Played → Step → Played
  plays r step = played_call (moment_of step.event) r (r.history ++ step.others) (takes r.state step.event).state (takes r.state step.event).call

  -- these events, one after the other
  abbrev pub played : List Entry → List Step → Played
  played h steps = fold plays (first_played config n h) steps

-- the events of these steps
abbrev pub events_of : List Step → List Event
events_of steps = map (λ step. step.event) steps

-- the course of a run that went as this was played
abbrev pub course_of : Played → Course
course_of r = record { state = r.state; places = []; sent = r.sent; made = r.made; short = false; reach = r.reach }

-- ---- the laws of a run

-- none of these numbers is above that one
abbrev pub AllWithin : ℕ → List ℕ → Type 0
AllWithin n [] = Unit {0}
AllWithin n (p ∷ ps) = (p ≤ n) × AllWithin n ps

-- what is added to the history later changes neither a run nor what its polls heed
abbrev pub RunIsSame : Type 0
RunIsSame = (config : Config) (n : ℕ) (old new : List Entry) (places : List ℕ) (es : List Event) → IsPrefix old new → AllWithin (length old) places
    → (run config n new places es ≡ run config n old places es) × (Heeds config n old places es → Heeds config n new places es)

-- what is played on one thread is the run over its history, with the marks of its answers as places
abbrev pub PlayIsRun : Type 0
PlayIsRun = (config : Config) (n : ℕ) (h : List Entry) (steps : List Step) → let r = played config n h steps in run config n r.history r.marks (events_of steps) ≡ course_of r

-- a run that used up its places, over a longer history, with more places, and with one more event
abbrev pub RunGoesOn : Type 0
RunGoesOn = (config : Config) (n : ℕ) (old new : List Entry) (places more : List ℕ) (es : List Event) (e : Event) (s : State) (sent : List Outgoing) (made : List (ℕ × Entry)) (reach : ℕ)
    → IsPrefix old new → AllWithin (length old) places
    → run config n old places es ≡ record { state = s; places = []; sent = sent; made = made; short = false; reach = reach }
    → let c : Course = record { state = s; places = more; sent = sent; made = made; short = false; reach = reach } in
    (run config n new (places ++ more) (es ++ e ∷ []) ≡ asked config n new (moment_of e) c (takes s e).state (takes s e).call)
    × (Heeds config n old places es → IsHeeded reach e → Heeds config n new (places ++ more) (es ++ e ∷ []))

-- ---- the laws of a step

-- each call of an event is one that the session may make
abbrev pub TakingAsks : Type 0
TakingAsks = (s : State) (e : Event) → IfSome (takes s e).call Asks

-- once the answer is given, no request awaits one
abbrev pub AnswersAreLast : Type 0
AnswersAreLast = (s : State) (a : Answer) → (hears s a).pending ≡ None
