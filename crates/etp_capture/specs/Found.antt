-- What comes next in a capture, after this many bytes were read.
use Rattle.std.specs.Prelude.{ℕ, ◌+◌, not, nat_eq, nat_lt, nat_le, if◌then◌else◌, List, [], ◌∷◌, length, take, drop}
use Rattle.std.specs.List.{starts_with}
use Rattle.etp_capture.specs.Frames.{magic, capture_limit, is_kind, is_length, length_in, frame_of}
use Rattle.etp_capture.specs.declared.frame.Frame.{Frame}
use Rattle.etp_capture.specs.declared.reader.CaptureError.{CaptureError}
use Rattle.etp_capture.specs.declared.reader.CaptureError.TheVariants.{Magic, Kind, Length, Cut, Limit}

-- a whole frame and what follows it, the end of the capture, or a fault
pub data Found : Type 0 where
  Whole : (frame : Frame) (rest : List ℕ) → Found
  NoMore : Found
  Bad : (why : CaptureError) → Found

-- after the head of the frame at an offset: its payload, a byte past the limit, or too few bytes
abbrev pub body_found : ℕ → List ℕ → List ℕ → Found
body_found at head rest =
    if nat_lt (length rest) (length_in head) then (if nat_lt capture_limit (at + 17 + length rest) then Bad Limit else Bad (Cut at))
    else (if nat_lt capture_limit (at + 17 + length_in head) then Bad Limit
    else Whole (frame_of head (take (length_in head) rest)) (drop (length_in head) rest))

-- after a kind and 16 more bytes: a length that the kind can't have, or the payload
abbrev pub length_found : ℕ → ℕ → List ℕ → List ℕ → Found
length_found at kind head rest =
    if not (is_length kind (length_in head)) then Bad (Length at) else body_found at head rest

-- after a kind: too few bytes for a head, a byte past the limit, or the length
abbrev pub head_found : ℕ → ℕ → List ℕ → Found
head_found at kind rest =
    if nat_lt (length rest) 16 then (if nat_lt capture_limit (at + 1 + length rest) then Bad Limit else Bad (Cut at))
    else (if nat_lt capture_limit (at + 17) then Bad Limit
    else length_found at kind (take 17 (kind ∷ rest)) (drop 17 (kind ∷ rest)))

-- at a frame's offset: the end, a byte past the limit, another kind, or the head
abbrev pub found : ℕ → List ℕ → Found
found at [] = NoMore
found at (kind ∷ rest) =
    if nat_lt capture_limit (at + 1) then Bad Limit
    else (if not (is_kind kind) then Bad (Kind at) else head_found at kind rest)

-- at the offset of a reader, which below 8 is before the magic
abbrev pub next_found : ℕ → List ℕ → Found
next_found at bytes =
    if nat_le 8 at then found at bytes
    else (if starts_with nat_eq bytes magic then found 8 (drop 8 bytes) else Bad Magic)
