-- What arrives is what the bytes of an event are read as; for the crates above too.
use Rattle.std.specs.Prelude.{ℕ, ℤ, Bool, true, false, List, ◌≡◌, Result, Ok, Err, length, nat_le, refl}
use Rattle.etp_frame.specs.Reading.{read_of}
use Rattle.etp_frame.specs.declared.error.FrameError.{FrameError}
use Rattle.etp_frame.specs.declared.error.FrameError.TheVariants as frame
use Rattle.etp_frame.specs.declared.header.Header.{Header}
use Rattle.etp_frame.specs.declared.message.Message.{Message}
use Rattle.etp_schema.specs.declared.body.Side.TheVariants.{Client}
use Rattle.session_core.specs.declared.state.Arrived.{Arrived}
use Rattle.session_core.specs.declared.state.Arrived.TheVariants as arrives
use Rattle.session_core.specs.declared.state.Request.{Request}
use Rattle.session_core.specs.Arriving.{Event, Receives, Polls, arrived, arrived_as, arrived_by, error_event, follows, max_message_len, request_of, unless_stale}
use Rattle.session_core.specs.Granting.{IsPoll, IsRead}

-- what an event is at first sight is what its bytes are read as
abbrev pub IsArrival : Event → Arrived → Type 0
IsArrival e (arrives.Unreadable c) = Unit {0}
IsArrival e (arrives.Stale r) = Unit {0}
IsArrival e (arrives.Refused r c) = Unit {0}
IsArrival e (arrives.Fresh hd moment x) = IsRead e hd x
IsArrival e (arrives.Polled front) = IsPoll e

arrival_unless : (e : Event) (b : Bool) (r : Request) (a : Arrived) → IsArrival e a → IsArrival e (unless_stale b r a)
arrival_unless e true r a is = is
arrival_unless e false r a is = tt

arrival_error : (e : Event) (last_id : ℤ) (x : FrameError) → IsArrival e (error_event last_id x)
arrival_error e last_id (frame.Header why) = tt
arrival_error e last_id (frame.Extension h) = arrival_unless e (follows last_id h.id) (request_of h) _ tt
arrival_error e last_id (frame.Compressed h) = arrival_unless e (follows last_id h.id) (request_of h) _ tt
arrival_error e last_id (frame.UnknownProtocol h) = arrival_unless e (follows last_id h.id) (request_of h) _ tt
arrival_error e last_id (frame.UnknownKind h) = arrival_unless e (follows last_id h.id) (request_of h) _ tt
arrival_error e last_id (frame.Body h why) = arrival_unless e (follows last_id h.id) (request_of h) _ tt
arrival_error e last_id (frame.Rest h at) = arrival_unless e (follows last_id h.id) (request_of h) _ tt
arrival_error e last_id frame.NoMemory = tt

arrival_as : (bytes : List ℕ) (last_id moment : ℤ) (r : Result (Header × Message) FrameError) → read_of Client bytes ≡ r → IsArrival (Receives bytes moment) (arrived_as last_id moment r)
arrival_as bytes last_id moment (Ok x) f = arrival_unless (Receives bytes moment) (follows last_id x.0.id) (request_of x.0) (arrives.Fresh x.0 moment x.1) f
arrival_as bytes last_id moment (Err x) f = arrival_error (Receives bytes moment) last_id x

arrival_by : (b : Bool) (bytes : List ℕ) (last_id moment : ℤ) → IsArrival (Receives bytes moment) (arrived_by b last_id moment bytes)
arrival_by true bytes last_id moment = arrival_as bytes last_id moment (read_of Client bytes) refl
arrival_by false bytes last_id moment = tt

pub arrival_of : (last_id : ℤ) (e : Event) → IsArrival e (arrived last_id e)
arrival_of last_id (Receives bytes moment) = arrival_by (nat_le (length bytes) max_message_len) bytes last_id moment
arrival_of last_id (Polls front) = tt
