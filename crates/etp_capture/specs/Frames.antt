-- The frames of a capture and their bytes.
use Rattle.std.specs.Prelude.{◌≡◌, ℕ, ◌%◌, ◌^◌, ◌<◌, ◌==◌, ◌&&◌, ◌||◌, not, nat_le, Bool, true, List, ◌∷◌, ◌++◌, length, get_or, take, drop, codes, FitsSigned, ℤ}
use Rattle.std.specs.Int.{w32, w64, to_be_bytes, from_be_bytes, cast_signed, cast_unsigned}
use Rattle.etp_capture.specs.Kinds.{kind_in, kind_poll, kind_end, kind_out, kind_ended}
use Rattle.etp_capture.specs.declared.frame.Frame.{Frame}

-- what a capture begins with
abbrev pub magic : List ℕ
magic = codes "ETPCAP01"

-- the greatest number of bytes of a capture
abbrev pub capture_limit : ℕ
capture_limit = 1073741824

-- the greatest number of bytes of a frame's payload
abbrev pub frame_limit : ℕ
frame_limit = 33554432

-- the kinds of frames
abbrev pub is_kind : ℕ → Bool
is_kind k = k == kind_in || k == kind_poll || k == kind_end || k == kind_out || k == kind_ended

-- the lengths that a payload of a kind may have
abbrev pub is_length : ℕ → ℕ → Bool
is_length kind n =
    nat_le n frame_limit && (not (kind == kind_poll || kind == kind_end) || n == 0)
    && (not (kind == kind_ended) || n == 1 || n == 5)

-- a frame that a capture may hold
pub record IsFrame (f : Frame) : Type 0 where
  pub kind : is_kind f.kind ≡ true
  pub payload : is_length f.kind (length f.bytes) ≡ true

-- a tag and a moment are numbers of 32 and 64 bits
pub record IsInRange (f : Frame) : Type 0 where
  pub tag : f.tag < 2 ^ 32
  pub moment : FitsSigned w64 f.moment

-- the 17 bytes that a frame begins with: kind, tag, moment and length
abbrev pub head_bytes : ℕ → ℕ → ℤ → ℕ → List ℕ
head_bytes kind tag moment n =
    kind ∷ (to_be_bytes w32 tag ++ (to_be_bytes w64 (cast_unsigned w64 moment) ++ to_be_bytes w32 (n % 2 ^ 32)))

-- the bytes of a frame
abbrev pub frame_bytes : Frame → List ℕ
frame_bytes f = head_bytes f.kind f.tag f.moment (length f.bytes) ++ f.bytes

-- the length that a head states
abbrev pub length_in : List ℕ → ℕ
length_in head = from_be_bytes w32 (drop 13 head)

-- the frame of a head and a payload
abbrev pub frame_of : List ℕ → List ℕ → Frame
frame_of head payload = record {
  kind = get_or head 0 0;
  tag = from_be_bytes w32 (take 4 (drop 1 head));
  moment = cast_signed w64 (from_be_bytes w64 (take 8 (drop 5 head)));
  bytes = payload;
}

-- a head with a known kind and a length that this kind may have
pub record IsHead (head : List ℕ) : Type 0 where
  pub long : length head ≡ 17
  pub kind : is_kind (get_or head 0 0) ≡ true
  pub payload : is_length (get_or head 0 0) (length_in head) ≡ true
