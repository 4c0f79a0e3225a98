-- Whole captures.
use Rattle.std.specs.Prelude.{◌≡◌, ℕ, ◌+◌, ◌≤◌, ◌⊎◌, false, nat_eq, List, [], ◌∷◌, ◌++◌, length}
use Rattle.std.specs.List.{starts_with}
use Rattle.etp_capture.specs.Frames.{magic, capture_limit, frame_bytes, IsFrame, IsInRange}
use Rattle.etp_capture.specs.Found.{found, Bad}
use Rattle.etp_capture.specs.declared.frame.Frame.{Frame}
use Rattle.etp_capture.specs.declared.reader.CaptureError.{CaptureError}
use Rattle.etp_capture.specs.declared.reader.CaptureError.TheVariants.{Magic}

-- the bytes of frames, one after another
abbrev pub frames_bytes : List Frame → List ℕ
frames_bytes [] = []
frames_bytes (f ∷ fs) = frame_bytes f ++ frames_bytes fs

-- each is a frame that a capture may hold
abbrev pub AreFrames : List Frame → Type 0
AreFrames [] = Unit {0}
AreFrames (f ∷ fs) = IsFrame f × IsInRange f × AreFrames fs

-- the offset after frames of which the first is at an offset
abbrev pub end_at : ℕ → List Frame → ℕ
end_at at [] = at
end_at at (f ∷ fs) = end_at (at + (17 + length f.bytes)) fs

-- these bytes are the capture of these frames
pub record IsCapture (frames : List Frame) (bytes : List ℕ) : Type 0 where
  pub all : bytes ≡ magic ++ frames_bytes frames
  pub small : length bytes ≤ capture_limit
  pub frames_are : AreFrames frames

-- these bytes are the magic, some whole frames and then a fault
pub record FailsBehind (why : CaptureError) (bytes : List ℕ) : Type 0 where
  pub frames : List Frame
  pub rest : List ℕ
  pub all : bytes ≡ magic ++ (frames_bytes frames ++ rest)
  pub small : end_at 8 frames ≤ capture_limit
  pub frames_are : AreFrames frames
  pub fault : found (end_at 8 frames) rest ≡ Bad why

-- these bytes are not a capture, for this reason
abbrev pub CaptureFails : CaptureError → List ℕ → Type 0
CaptureFails why bytes = ((why ≡ Magic) × (starts_with nat_eq bytes magic ≡ false)) ⊎ FailsBehind why bytes
