-- What a reader answers, and how it is afterwards.
use Rattle.std.specs.Prelude.{◌≡◌, ℕ, ◌+◌, ◌<◌, false, nat_eq, nat_le, max, if◌then◌else◌, List, [], ◌++◌, length, take, None, Some, Ok, Err, Result}
use Rattle.std.specs.List.{starts_with}
use Rattle.std.specs.declared.option.Option.{Option}
use Rattle.etp_capture.specs.Frames.{frame_of, magic}
use Rattle.etp_capture.specs.Found.{Found, Whole, NoMore, Bad, found, body_found}
use Rattle.etp_capture.specs.declared.frame.Frame.{Frame}
use Rattle.etp_capture.specs.declared.reader.CaptureError.{CaptureError}
use Rattle.etp_capture.specs.declared.reader.CaptureError.TheVariants.{Magic, ReadFault, NoMemory}

-- no whole frame
abbrev pub IsNoFrame : Found → Type 0
IsNoFrame (Whole frame rest) = ⊥
IsNoFrame NoMore = Unit {0}
IsNoFrame (Bad why) = Unit {0}

-- no byte after a whole frame
abbrev pub IsOneAtMost : Found → Type 0
IsOneAtMost (Whole frame rest) = rest ≡ []
IsOneAtMost NoMore = Unit {0}
IsOneAtMost (Bad why) = Unit {0}

-- fewer bytes than this were taken
abbrev pub TakesBelow : ℕ → List ℕ → List ℕ → Type 0
TakesBelow limit old new = (taken : List ℕ) × (old ≡ taken ++ new) × (length taken < limit)

-- in the bytes that were taken no whole frame is found
abbrev pub TakesNoFrame : (List ℕ → Found) → List ℕ → List ℕ → Type 0
TakesNoFrame find old new = (taken : List ℕ) × (old ≡ taken ++ new) × IsNoFrame (find taken)

-- the bytes that were taken are no more than the frame that is found in them
abbrev pub TakesOneAtMost : (List ℕ → Found) → List ℕ → List ℕ → Type 0
TakesOneAtMost find old new = (taken : List ℕ) × (old ≡ taken ++ new) × IsOneAtMost (find taken)

-- an error that the bytes show; a fault of the source and running out of memory show how little was taken
abbrev pub Shows : CaptureError → (List ℕ → Found) → List ℕ → List ℕ → Type 0
Shows NoMemory find old new = TakesOneAtMost find old new
Shows ReadFault find old new = TakesNoFrame find old new
Shows e find old new = find old ≡ Bad e

-- what is answered is what is found, and with a frame exactly its bytes were taken
abbrev pub Answers : Result (Option Frame) CaptureError → (List ℕ → Found) → List ℕ → List ℕ → Type 0
Answers (Ok (Some frame)) find old new = find old ≡ Whole frame new
Answers (Ok None) find old new = (find old ≡ NoMore) × (new ≡ [])
Answers (Err e) find old new = Shows e find old new

-- what filling a buffer took, with the buffer as it is afterwards: its front, up to its end or the input's, or less
abbrev pub TakesUp : Option ℕ → List ℕ → List ℕ → List ℕ → Type 0
TakesUp (Some got) buf old new = (old ≡ take got buf ++ new) × (got < length buf → new ≡ [])
TakesUp None buf old new = TakesBelow (length buf) old new

-- what the 17 bytes at a frame's place are
abbrev pub HeadOf : Result (Option (List ℕ)) CaptureError → ℕ → List ℕ → List ℕ → Type 0
HeadOf (Ok (Some head)) at old new = (old ≡ head ++ new) × (found at old ≡ body_found at head new)
HeadOf (Ok None) at old new = (old ≡ []) × (new ≡ [])
HeadOf (Err e) at old new = Shows e (found at) old new

-- what the payload after a head is
abbrev pub BodyOf : Result (List ℕ) CaptureError → ℕ → List ℕ → List ℕ → List ℕ → Type 0
BodyOf (Ok body) at head old new = body_found at head old ≡ Whole (frame_of head body) new
BodyOf (Err e) at head old new = Shows e (body_found at head) old new

-- the first fault of a head, or none
abbrev pub HeadFault : {U : Type 0} → Result U CaptureError → ℕ → List ℕ → List ℕ → Type 0
HeadFault (Ok u) at old rest = found at old ≡ body_found at (take 17 old) rest
HeadFault (Err e) at old rest = found at old ≡ Bad e

-- the magic is not at the front, or fewer bytes than it has were taken
abbrev pub MagicFault : CaptureError → List ℕ → List ℕ → Type 0
MagicFault Magic old new = starts_with nat_eq old magic ≡ false
MagicFault ReadFault old new = TakesBelow 8 old new
MagicFault e old new = Unit {0}

-- the magic is at the front and was taken, or it was not read
abbrev pub MagicOf : {U : Type 0} → Result U CaptureError → List ℕ → List ℕ → Type 0
MagicOf (Ok u) old new = old ≡ magic ++ new
MagicOf (Err e) old new = MagicFault e old new

-- what a reader at an offset has still to read of the magic
abbrev pub magic_left : ℕ → List ℕ
magic_left at = if nat_le 8 at then [] else magic

-- what reading the magic does, unless it was read before
abbrev pub Begins : {U : Type 0} → Result U CaptureError → ℕ → List ℕ → List ℕ → Type 0
Begins (Ok u) at old new = old ≡ magic_left at ++ new
Begins (Err e) at old new = MagicFault e old new

-- a reader: how many bytes of the capture it read, and the error that it repeats
pub record Reader : Type 0 where
  pub at : ℕ
  pub failed : Option CaptureError

-- the number of a frame's bytes
abbrev pub size_of : Option Frame → ℕ
size_of None = 0
size_of (Some frame) = 17 + length frame.bytes

-- a reader after its magic
abbrev pub begun : {U : Type 0} → Reader → Result U CaptureError → Reader
begun r (Ok u) = record { at = max r.at 8; failed = None }
begun r (Err e) = record { at = r.at; failed = Some e }

-- a reader after a call: past the frame, or failed
abbrev pub after : Reader → Result (Option Frame) CaptureError → Reader
after r (Ok answer) = record { at = max r.at 8 + size_of answer; failed = None }
after r (Err e) = record { at = r.at; failed = Some e }
