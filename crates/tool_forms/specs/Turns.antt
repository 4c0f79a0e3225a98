-- What one frame does to its session and the journal.
use Rattle.std.specs.Prelude.{ℕ, ◌+◌, ℤ, pos, List, [], ◌∷◌, ◌++◌, ◌==◌, if◌then◌else◌, length, map, Option, None, Some}
use Rattle.std.specs.Int.{w32, to_be_bytes, cast_unsigned}
use Rattle.etp_values.specs.Code.{number_of}
use Rattle.etp_capture.specs.Kinds.{kind_in, kind_end, kind_out, kind_ended}
use Rattle.etp_capture.specs.declared.frame.Frame.{Frame}
use Rattle.server_config.specs.declared.config.Config.{Config}
use Rattle.store_machine.specs.Answers.{answered, added}
use Rattle.store_machine.specs.declared.journal.Entry.{Entry}
use Rattle.store_machine.specs.declared.call.StoreCall.{StoreCall}
use Rattle.store_machine.specs.declared.call.StoreCall.TheVariants.{Enter}
use Rattle.store_machine.specs.declared.call.Reply.{Reply}
use Rattle.store_machine.specs.declared.call.Reply.TheVariants.{Entered}
use Rattle.session_core.specs.Arriving.{Event, Receives, Polls}
use Rattle.session_core.specs.State.{State, first_state}
use Rattle.session_core.specs.Run.{takes, hears, drained, moment_of}
use Rattle.session_core.specs.Session.{bytes_of, end_of}
use Rattle.session_core.specs.declared.state.Outgoing.{Outgoing}
use Rattle.session_core.specs.declared.state.End.{End}
use Rattle.session_core.specs.declared.state.End.TheVariants as end
use Rattle.tool_forms.specs.declared.tag.TagState.{TagState}
use Rattle.tool_forms.specs.declared.tag.TagState.TheVariants.{Ended, Open}
use Rattle.tool_forms.specs.declared.tag.OpenSession.{OpenSession}
use Rattle.tool_forms.specs.declared.tag.Ending.{Ending}
use Rattle.tool_forms.specs.declared.tag.Ending.TheVariants.{Session, PeerEnd, JournalFull}

-- what an end frame says: why the session has ended by its own rules
abbrev pub session_end_bytes : End → List ℕ
session_end_bytes end.Closed = 1 ∷ []
session_end_bytes (end.Refused code) = 2 ∷ to_be_bytes w32 (cast_unsigned w32 (number_of code))
session_end_bytes end.IdsSpent = 3 ∷ []

-- what an end frame says, by its own rules or not
abbrev pub ending_bytes : Ending → List ℕ
ending_bytes (Session e) = session_end_bytes e
ending_bytes PeerEnd = 4 ∷ []
ending_bytes JournalFull = 5 ∷ []

-- a frame that answers another: of its session and its moment
abbrev pub answering : ℕ → Frame → List ℕ → Frame
answering kind f bytes = record { kind = kind; tag = f.tag; moment = f.moment; bytes = bytes }

-- the messages that a session sends, each as a frame
abbrev pub messages : Frame → List Outgoing → List Frame
messages f sent = map (λ o. answering kind_out f (bytes_of o)) sent

-- the frame that says that a session has ended
abbrev pub end_frame : Frame → Ending → Frame
end_frame f why = answering kind_ended f (ending_bytes why)

-- a frame's event: a message, or one poll of the journal's length
abbrev pub event_of : List Entry → Frame → Event
event_of h f = if f.kind == kind_in then Receives f.bytes f.moment else Polls (length h)

-- a session and the journal after an event was taken and its call answered
pub record Turn : Type 0 where
  pub journal : List Entry
  pub session : OpenSession
  -- the journal's length before the call, if there was one
  pub marks : List ℕ

-- the call of an event is answered at the whole journal, which then has the call's entry
abbrev pub turned : Config → List Entry → ℤ → OpenSession → State → Option StoreCall → Turn
turned c h at s st None = record { journal = h; session = record { number = s.number; entries = s.entries; session = st }; marks = [] }
turned c h at s st (Some call) =
    let entries = added c h s.number s.entries at call in
    record {
      journal = h ++ entries;
      session = record { number = s.number; entries = s.entries + length entries; session = hears st (answered c h call) };
      marks = length h ∷ [];
    }

-- an open session takes an event
abbrev pub turn : Config → List Entry → OpenSession → Frame → Turn
turn c h s f = turned c h (moment_of (event_of h f)) s (takes s.session (event_of h f)).state (takes s.session (event_of h f)).call

-- what a frame leaves of the journal and of its tag, and the frames that answer it
pub record Effect : Type 0 where
  pub journal : List Entry
  pub tag : TagState
  pub answers : List Frame

-- all messages are sent; a session that has ended says so
abbrev pub effect_after : Frame → Turn → Option End → Effect
effect_after f t None = record {
  journal = t.journal;
  tag = Open (record { number = t.session.number; entries = t.session.entries; session = drained t.session.session });
  answers = messages f t.session.session.out;
}
effect_after f t (Some e) = record { journal = t.journal; tag = Ended; answers = messages f t.session.session.out ++ end_frame f (Session e) ∷ [] }

-- a frame of an open session: its client's end, or an event
abbrev pub effect_open : Config → List Entry → OpenSession → Frame → Effect
effect_open c h s f =
    if f.kind == kind_end then record { journal = h; tag = Ended; answers = end_frame f PeerEnd ∷ [] }
    else effect_after f (turn c h s f) (end_of (turn c h s f).session.session.phase)

-- a session that entered at this place, whose one entry is that of entering
abbrev pub first_open : Config → ℕ → OpenSession
first_open c n = record { number = n; entries = 1; session = first_state c n (pos 1) }

-- the place at which the store let a session in
abbrev pub place_in : Reply → Option ℕ
place_in (Entered n) = Some n
place_in reply = None

-- the journal once the session of a new tag was let in, if it has room
abbrev pub entered_journal : Config → List Entry → Frame → List Entry
entered_journal c h f = h ++ added c h 0 0 f.moment Enter

-- the place at which it was let in
abbrev pub entered_place : Config → List Entry → Option ℕ
entered_place c h = place_in (answered c h Enter).reply

-- the first frame of a tag, after the store was asked to let its session in
abbrev pub effect_entered : Config → List Entry → Frame → Option ℕ → Effect
effect_entered c h f (Some n) = effect_open c h (first_open c n) f
effect_entered c h f None = record { journal = h; tag = Ended; answers = end_frame f JournalFull ∷ [] }

-- the first frame of a tag: its session enters, if the journal has room for it
abbrev pub effect_new : Config → List Entry → Frame → Effect
effect_new c h f = effect_entered c (entered_journal c h f) f (entered_place c h)

-- a frame by the state of its tag, which a new tag does not have: a session that has ended is left as it is
abbrev pub effect_at : Config → List Entry → Frame → Option TagState → Effect
effect_at c h f None = effect_new c h f
effect_at c h f (Some (Open s)) = effect_open c h s f
effect_at c h f (Some Ended) = record { journal = h; tag = Ended; answers = [] }
