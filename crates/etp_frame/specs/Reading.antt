-- Reading a whole message: the header, then the body that it names, and the first cause that refuses them.
use Rattle.std.specs.Prelude.{ℕ, ◌+◌, List, length, drop, ◌==◌, if◌then◌else◌, Option, Some, None, Result, Ok, Err}
use Rattle.avro_bin.specs.Value.{Value}
use Rattle.avro_bin.specs.Schema.{Schema}
use Rattle.avro_bin.specs.Laws.{read_value, node_limit}
use Rattle.avro_bin.specs.declared.refusal.Refusal.{Refusal}
use Rattle.avro_bin.specs.declared.refusal.Refusal.TheVariants as r
use Rattle.etp_schema.specs.Bodies.{is_protocol, body_place}
use Rattle.etp_schema.specs.Family.{read_as}
use Rattle.etp_schema.specs.Shapes.{shape_at}
use Rattle.etp_schema.specs.declared.body.Side.{Side}
use Rattle.etp_frame.specs.Header.{header_form, has_flag, extended, compressed}
use Rattle.etp_frame.specs.Message.{typed_kind}
use Rattle.etp_frame.specs.declared.header.Header.{Header}
use Rattle.etp_frame.specs.declared.message.Message.{Message}
use Rattle.etp_frame.specs.declared.error.FrameError.{FrameError}
use Rattle.etp_frame.specs.declared.error.FrameError.TheVariants as f

infixl 10 ◌>>=◌
abbrev pub ◌>>=◌ : {A B : Type 0} → Result A FrameError → (A → Result B FrameError) → Result B FrameError
(Ok x) >>= next = next x
(Err e) >>= next = Err e

-- the header that was read, if one was
abbrev pub header_of_error : FrameError → Option Header
header_of_error (f.Header e) = None
header_of_error (f.Extension h) = Some h
header_of_error (f.Compressed h) = Some h
header_of_error (f.UnknownProtocol h) = Some h
header_of_error (f.UnknownKind h) = Some h
header_of_error (f.Body h e) = Some h
header_of_error (f.Rest h offset) = Some h
header_of_error f.NoMemory = None

-- the cause is in the bytes, and not in the memory
abbrev pub IsFault : FrameError → Type 0
IsFault f.NoMemory = ⊥
IsFault e = Unit {0}

-- a refusal this many bytes further on
abbrev pub shifted : ℕ → Refusal → Refusal
shifted by (r.Short offset) = r.Short (by + offset)
shifted by (r.Number offset) = r.Number (by + offset)
shifted by (r.Range offset) = r.Range (by + offset)
shifted by (r.Bool offset) = r.Bool (by + offset)
shifted by (r.Branch offset) = r.Branch (by + offset)
shifted by (r.Utf8 offset) = r.Utf8 (by + offset)
shifted by (r.Length offset) = r.Length (by + offset)
shifted by (r.BlockSize offset) = r.BlockSize (by + offset)
shifted by (r.DoubleKey offset) = r.DoubleKey (by + offset)
shifted by (r.Limit offset) = r.Limit (by + offset)
shifted by r.NoMemory = r.NoMemory

abbrev pub as_header : Result (Value × ℕ) Refusal → Result (Header × ℕ) FrameError
as_header (Ok x) = Ok (header_form.from_value x.0, x.1)
as_header (Err e) = Err (f.Header e)

-- the header at the front of the bytes, and the length of its spelling
abbrev pub header_in : List ℕ → Result (Header × ℕ) FrameError
header_in bytes = as_header (read_value header_form.schema node_limit bytes)

-- nothing, if a header has neither an extension nor a compressed body, and a protocol has its number
abbrev pub admitted : Header → Result (Unit {0}) FrameError
admitted h =
    if has_flag h.flags extended then Err (f.Extension h)
    else if has_flag h.flags compressed then Err (f.Compressed h)
    else if is_protocol h.protocol then Ok tt
    else Err (f.UnknownProtocol h)

-- the place of the schema of a body, if there is such a message
abbrev pub known_place : Header → Option ℕ → Result ℕ FrameError
known_place h (Some place) = Ok place
known_place h None = Err (f.UnknownKind h)

-- the value of a body of a given length at a given offset, if it ends with the bytes
abbrev pub as_body : Header → ℕ → ℕ → Result (Value × ℕ) Refusal → Result Value FrameError
as_body h front size (Ok x) = if x.1 == size then Ok x.0 else Err (f.Rest h (front + x.1))
as_body h front size (Err e) = Err (f.Body h (shifted front e))

-- the value of the body from this offset on
abbrev pub body_in : Header → Schema → ℕ → List ℕ → Result Value FrameError
body_in h s front bytes = as_body h front (length (drop front bytes)) (read_value s node_limit (drop front bytes))

-- the header, the place of the body's schema and the body's value that the side's bytes are read as, or the first cause that
-- refuses them
unfoldable pub tree_of : Side → List ℕ → Result (Header × (ℕ × Value)) FrameError
tree_of side bytes = do
  front ← header_in bytes
  plain ← admitted front.0
  place ← known_place front.0 (body_place front.0.protocol front.0.kind side)
  value ← body_in front.0 (shape_at place) front.1 bytes
  Ok (front.0, (place, value))

-- the message that a body was read as; no row is without one
abbrev pub known_message : Header → Option Message → Result (Header × Message) FrameError
known_message h (Some x) = Ok (h, x)
known_message h None = Err (f.UnknownKind h)

-- the header and message that the side's bytes are read as, or the first cause that refuses them
unfoldable pub read_of : Side → List ℕ → Result (Header × Message) FrameError
read_of side bytes = do
  tree ← tree_of side bytes
  known_message tree.0 (read_as tree.1.1 (typed_kind tree.0.protocol tree.0.kind))
