-- The laws of captures.
use Rattle.std.specs.Prelude.{◌≡◌, ℕ, ◌+◌, ◌<◌, ◌≤◌, ◌⊎◌, List, ◌++◌, length, All}
use Rattle.etp_capture.specs.Frames.{capture_limit, frame_bytes, IsFrame, IsInRange}
use Rattle.etp_capture.specs.Found.{found, Whole}
use Rattle.etp_capture.specs.Capture.{IsCapture, CaptureFails}
use Rattle.etp_capture.specs.declared.frame.Frame.{Frame}
use Rattle.etp_capture.specs.declared.reader.CaptureError.{CaptureError}

-- numbers that are bytes
abbrev pub AreBytes : List ℕ → Type 0
AreBytes xs = All (λ b. b < 256) xs

-- what was written for a frame is read as that frame, whatever follows it
abbrev pub ReadsBack : Type 0
ReadsBack = (f : Frame) (at : ℕ) (rest : List ℕ) → IsFrame f → IsInRange f → at + (17 + length f.bytes) ≤ capture_limit → found at (frame_bytes f ++ rest) ≡ Whole f rest

-- what is read as a frame is what is written for it
abbrev pub WritesBack : Type 0
WritesBack = (at : ℕ) (bytes : List ℕ) (f : Frame) (rest : List ℕ) → AreBytes bytes → found at bytes ≡ Whole f rest
    → (bytes ≡ frame_bytes f ++ rest) × IsFrame f × IsInRange f × (at + (17 + length f.bytes) ≤ capture_limit)

-- bytes are the capture of at most one list of frames
abbrev pub OneCapture : Type 0
OneCapture = (bytes : List ℕ) (fs gs : List Frame) → IsCapture fs bytes → IsCapture gs bytes → fs ≡ gs

-- bytes that are no capture fail for one reason
abbrev pub OneFault : Type 0
OneFault = (bytes : List ℕ) (why other : CaptureError) → CaptureFails why bytes → CaptureFails other bytes → why ≡ other

-- a capture fails for no reason
abbrev pub NoFault : Type 0
NoFault = (bytes : List ℕ) (fs : List Frame) (why : CaptureError) → IsCapture fs bytes → CaptureFails why bytes → ⊥

-- all bytes are a capture or fail
abbrev pub SomeAnswer : Type 0
SomeAnswer = (bytes : List ℕ) → AreBytes bytes → ((fs : List Frame) × IsCapture fs bytes) ⊎ ((why : CaptureError) × CaptureFails why bytes)
