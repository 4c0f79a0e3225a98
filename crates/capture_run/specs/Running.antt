-- A run of a form over a capture: why it stops, what it has read and what it has written then.
use Rattle.std.specs.Prelude.{◌≡◌, ℕ, ◌⊎◌, ◌==◌, pos, true, List, [], ◌∷◌, ◌++◌, if◌then◌else◌, Option, None, Some}
use Rattle.std.specs.Io.KnownBytes.{Keeps, Appends}
use Rattle.etp_outside.specs.Told.{Told}
use Rattle.etp_outside.specs.Whole.{AppendsFront}
use Rattle.etp_outside.specs.declared.status.Status.{Status}
use Rattle.etp_outside.specs.declared.status.Status.TheVariants as status
use Rattle.etp_capture.specs.Found.{Found, Whole, NoMore, Bad, found}
use Rattle.etp_capture.specs.Capture.{end_at}
use Rattle.etp_capture.specs.Reader.{TakesBelow, TakesNoFrame, TakesOneAtMost}
use Rattle.etp_capture.specs.declared.frame.Frame.{Frame}
use Rattle.etp_capture.specs.declared.reader.CaptureError.{CaptureError}
use Rattle.etp_capture.specs.declared.reader.CaptureError.TheVariants as error
use Rattle.capture_run.specs.Form.{Plan}
use Rattle.capture_run.specs.Reading.{IsRead, HasNoMagic}
use Rattle.capture_run.specs.declared.form.Stop.{Stop}
use Rattle.capture_run.specs.declared.form.Stop.TheVariants.{End, Fault, Refused, Limit, ReadFault, WriteFault, NoMemory}

-- what a stream reveals before a call and after it: what an input has left, or what an output holds
pub record Stream : Type 0 where
  pub before : Option (List ℕ)
  pub after : Option (List ℕ)

-- a stream that reveals this before a call and that after it
abbrev pub between : Option (List ℕ) → Option (List ℕ) → Stream
between before after = record { before = before; after = after }

-- ---- why a run stops

-- the stop that an error of the capture's reader makes
abbrev pub stop_for : CaptureError → Stop
stop_for error.Magic = Fault 0
stop_for (error.Kind offset) = Fault offset
stop_for (error.Length offset) = Fault offset
stop_for (error.Cut offset) = Fault offset
stop_for error.Limit = Limit
stop_for error.ReadFault = ReadFault
stop_for error.NoMemory = NoMemory

-- the status of a stop
abbrev pub status_of : Stop → Status
status_of (End refused) = if refused == 0 then status.Done else status.Refused (pos refused)
status_of (Fault offset) = status.Capture offset
status_of (Refused offset) = status.Capture offset
status_of Limit = status.Limit
status_of ReadFault = status.ReadFault
status_of WriteFault = status.WriteFault
status_of NoMemory = status.NoMemory

-- the stop that follows from what comes after frames; a further frame that is taken makes none
abbrev pub stop_of : Plan → List Frame → Found → Option Stop
stop_of plan fs NoMore = Some (End (plan.refused fs))
stop_of plan fs (Bad why) = Some (stop_for why)
stop_of plan fs (Whole f rest) = if plan.accepts (fs ++ f ∷ []) then None else Some (Refused (end_at 8 fs))

-- these frames are taken, and what comes after them makes the run stop this way
abbrev pub Gives : Plan → Stop → List Frame → List ℕ → Type 0
Gives plan stop fs bytes =
    (plan.accepts fs ≡ true) × ((rest : List ℕ) × IsRead bytes fs rest × (stop_of plan fs (found (end_at 8 fs) rest) ≡ Some stop))

-- ---- what a run has read and written when it stops

-- what is left of the bytes after frames: a fault of the source leaves a part of the next frame unread, and if memory ran out no more than
-- that frame is read of them
abbrev pub Leaves : Stop → Plan → List Frame → List ℕ → List ℕ → Type 0
Leaves ReadFault plan fs rest left = TakesNoFrame (found (end_at 8 fs)) rest left
Leaves NoMemory plan fs rest left = TakesOneAtMost (found (end_at 8 fs)) rest left ⊎ ((f : Frame) × (found (end_at 8 fs) rest ≡ Whole f left))
Leaves WriteFault plan fs rest left = left ≡ rest
Leaves (End refused) plan fs rest left = (refused ≡ plan.refused fs) × (found (end_at 8 fs) rest ≡ NoMore) × (left ≡ [])
Leaves stop plan fs rest left = stop_of plan fs (found (end_at 8 fs) rest) ≡ Some stop

-- what is written for frames at a stop
abbrev pub all_of : Stop → Plan → List Frame → List ℕ
all_of (End refused) plan fs = plan.written fs ++ plan.last fs
all_of stop plan fs = plan.written fs

-- frames of the input were read and taken, with this left after them and this written
pub record Stops (plan : Plan) (stop : Stop) (input : Stream) (Written : List ℕ → Type 0) : Type 0 where
  pub frames : List Frame
  pub accepted : plan.accepts frames ≡ true
  pub read : Told input.before input.after (λ before after. (rest : List ℕ) × IsRead before frames rest × Leaves stop plan frames rest after)
  pub written : Written (all_of stop plan frames)

-- the input before a run that stops before its first frame, as the magic is missing, in it, or before anything was read
abbrev pub Early : Stop → Stream → Type 0
Early (Fault offset) input = (offset ≡ 0) × Told input.before input.after (λ before after. HasNoMagic before)
Early ReadFault input = Told input.before input.after (TakesBelow 8)
Early NoMemory input = Keeps input.before input.after
Early stop input = ⊥

-- what a stop says about the input and the output. If a write failed, the run had stopped by itself or was between two frames, and a prefix
-- of what it had to write was written
abbrev pub Runs : Stop → Plan → Stream → Stream → Type 0
Runs WriteFault plan input output = (why : Stop) × Stops plan why input (AppendsFront output.before output.after)
Runs stop plan input output =
    Stops plan stop input (Appends output.before output.after) ⊎ (Early stop input × Keeps output.before output.after)

-- what a status says about a run
abbrev pub Ran : Plan → Status → Stream → Stream → Type 0
Ran plan status input output = (stop : Stop) × (status ≡ status_of stop) × Runs stop plan input output

-- ---- a run that continues, and one that has yet to write

-- frames of the input were read and taken, and what is written for them was written except for what is gathered
pub record Going (plan : Plan) (Stands : List Frame → Type 0) (at : ℕ) (gathered : List ℕ) (input output : Stream) : Type 0 where
  pub frames : List Frame
  pub sent : List ℕ
  pub stands : Stands frames
  pub accepted : plan.accepts frames ≡ true
  pub read : Told input.before input.after (λ before after. IsRead before frames after)
  pub place : end_at 8 frames ≡ at
  pub bytes : plan.written frames ≡ sent ++ gathered
  pub written : Appends output.before output.after sent

-- a run that has stopped, with what it gathered still to be written
pub record Unwritten (plan : Plan) (stop : Stop) (gathered : List ℕ) (input output : Stream) : Type 0 where
  pub sent : List ℕ
  pub written : Appends output.before output.after sent
  pub stops : Stops plan stop input (λ all. all ≡ sent ++ gathered)

-- the same, or a write has failed
abbrev pub Halts : Stop → Plan → List ℕ → Stream → Stream → Type 0
Halts WriteFault plan gathered input output = (why : Stop) × Stops plan why input (AppendsFront output.before output.after)
Halts stop plan gathered input output = Unwritten plan stop gathered input output

-- what was gathered was written or is still to be; or a write failed
abbrev pub WritesGathered : Option Stop → List ℕ → List ℕ → Option (List ℕ) → Option (List ℕ) → Type 0
WritesGathered None old new held kept = (sent : List ℕ) × Appends held kept sent × (old ≡ sent ++ new)
WritesGathered (Some stop) old new held kept = (stop ≡ WriteFault) × AppendsFront held kept old

-- what was still to be written is written before the stop is returned, unless a write has failed already
abbrev pub Finishes : Stop → Stop → List ℕ → Option (List ℕ) → Option (List ℕ) → Type 0
Finishes WriteFault answer rest held kept = (answer ≡ WriteFault) × Keeps held kept
Finishes stop answer rest held kept =
    ((answer ≡ stop) × Appends held kept rest) ⊎ ((answer ≡ WriteFault) × AppendsFront held kept rest)
