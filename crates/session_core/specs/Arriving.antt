-- What arrives: an event at first sight.
use Rattle.std.specs.Prelude.{ℕ, ℤ, pos, Bool, true, false, List, Result, Ok, Err, length, nat_le, int_lt, int_rem, ◌&&◌}
use Rattle.std.specs.Ordering.{int_eq}
use Rattle.etp_schema.specs.declared.body.Side.TheVariants.{Client}
use Rattle.etp_values.specs.declared.code.ErrorCode.{ErrorCode}
use Rattle.etp_values.specs.declared.code.ErrorCode.TheVariants as code
use Rattle.etp_frame.specs.declared.header.Header.{Header}
use Rattle.etp_frame.specs.declared.message.Message.{Message}
use Rattle.etp_frame.specs.declared.error.FrameError.{FrameError}
use Rattle.etp_frame.specs.declared.error.FrameError.TheVariants as frame
use Rattle.etp_frame.specs.Reading.{read_of}
use Rattle.session_core.specs.declared.state.Request.{Request}
use Rattle.session_core.specs.declared.state.Arrived.{Arrived}
use Rattle.session_core.specs.declared.state.Arrived.TheVariants.{Unreadable, Stale, Refused, Fresh, Polled}

-- an event of a session: a message's bytes with the moment at which they came, or a poll with the journal's length
pub data Event : Type 0 where
  Receives : (bytes : List ℕ) (moment : ℤ) → Event
  Polls : (front : ℕ) → Event

-- the greatest number of bytes of a message
abbrev pub max_message_len : ℕ
max_message_len = 16777216

-- a client's ids are even, and each is above the one before
abbrev pub follows : ℤ → ℤ → Bool
follows last_id id = int_lt last_id id && int_eq (int_rem id (pos 2)) (pos 0)

-- what a refusal or a reply answers
abbrev pub request_of : Header → Request
request_of h = record { protocol = h.protocol; id = h.id }

-- if its id follows, an event is this; otherwise it is stale
abbrev pub unless_stale : Bool → Request → Arrived → Arrived
unless_stale true r a = a
unless_stale false r a = Stale r

-- a message that could be read
abbrev pub message_event : ℤ → ℤ → Header → Message → Arrived
message_event last_id moment h m = unless_stale (follows last_id h.id) (request_of h) (Fresh h moment m)

-- a message that is refused because of its bytes
abbrev pub refused_event : ℤ → Header → ErrorCode → Arrived
refused_event last_id h c = unless_stale (follows last_id h.id) (request_of h) (Refused (request_of h) c)

-- the refusals of a message's bytes; that of a header's content comes after that of its id
abbrev pub error_event : ℤ → FrameError → Arrived
error_event last_id (frame.Header why) = Unreadable code.InvalidMessage
error_event last_id (frame.Extension h) = refused_event last_id h code.InvalidMessage
error_event last_id (frame.Compressed h) = refused_event last_id h code.CompressionNotSupported
error_event last_id (frame.UnknownProtocol h) = refused_event last_id h code.UnsupportedProtocol
error_event last_id (frame.UnknownKind h) = refused_event last_id h code.InvalidMessageType
error_event last_id (frame.Body h why) = refused_event last_id h code.InvalidMessage
error_event last_id (frame.Rest h at) = refused_event last_id h code.InvalidMessage
-- no bytes are read this way
error_event last_id frame.NoMemory = Unreadable code.InvalidMessage

-- what was read of the bytes
abbrev pub arrived_as : ℤ → ℤ → Result (Header × Message) FrameError → Arrived
arrived_as last_id moment (Ok x) = message_event last_id moment x.0 x.1
arrived_as last_id moment (Err e) = error_event last_id e

-- whether the bytes are few enough to be read
abbrev pub arrived_by : Bool → ℤ → ℤ → List ℕ → Arrived
arrived_by true last_id moment bytes = arrived_as last_id moment (read_of Client bytes)
arrived_by false last_id moment bytes = Unreadable code.SizeExceeded

-- a message that is too long is not read
abbrev pub arrived_message : ℤ → ℤ → List ℕ → Arrived
arrived_message last_id moment bytes = arrived_by (nat_le (length bytes) max_message_len) last_id moment bytes

-- an event after a message with this id
abbrev pub arrived : ℤ → Event → Arrived
arrived last_id (Receives bytes moment) = arrived_message last_id moment bytes
arrived last_id (Polls front) = Polled front
