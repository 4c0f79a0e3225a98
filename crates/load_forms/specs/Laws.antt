-- The law of loads.
use Rattle.std.specs.Prelude.{ℕ, ◌≤◌, ◌++◌}
use Rattle.etp_capture.specs.Capture.{IsCapture, frames_bytes}
use Rattle.etp_capture.specs.Frames.{magic}
use Rattle.generator.specs.Generator.{frames}

-- the bytes that are written for a load are the capture of its frames
abbrev pub LoadsAreCaptures : Type 0
LoadsAreCaptures = (size : ℕ) → size ≤ 1000000 → IsCapture (frames size) (magic ++ frames_bytes (frames size))
