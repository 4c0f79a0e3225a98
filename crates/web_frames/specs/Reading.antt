-- What the bytes that have come hold (RFC 6455, sections 5 and 7), one look at a time.
use Rattle.std.specs.Prelude.{◌≡◌, ℕ, ◌-◌, ◌%◌, ◌++◌, min, Bool, true, false, nat_lt, List, [], length, take, drop, ⊤, Option, None, Some, is_some, option_map, Result, Ok, Err}
use Rattle.websocket.specs.declared.error.Error.{Error}
use Rattle.websocket.specs.declared.error.Error.TheVariants as error
use Rattle.websocket.specs.declared.protocol.config.Role.{Role}
use Rattle.websocket.specs.declared.protocol.state.WebSocketState.TheVariants.{Active}
use Rattle.websocket.specs.declared.protocol.frame.coding.OpCode.{OpCode}
use Rattle.websocket.specs.declared.protocol.frame.coding.OpCode.TheVariants.{Control, Data}
use Rattle.websocket.specs.declared.protocol.frame.coding.Data.TheVariants as kinds
use Rattle.websocket.specs.declared.protocol.frame.coding.Data.{Data as DataKind}
use Rattle.websocket.specs.declared.protocol.frame.header.FrameHeader.{FrameHeader}
use Rattle.websocket.specs.declared.protocol.frame.codec.FrameStatus.{FrameStatus}
use Rattle.websocket.specs.declared.protocol.frame.codec.FrameStatus.TheVariants.{Partial, Complete}
use Rattle.websocket.specs.FrameHeader.{Decoded, decode_header, header_len}
use Rattle.websocket.specs.Mask.{apply_mask_if}
use Rattle.websocket.specs.Content.{Content, text, binary, ping, pong, close}
use Rattle.websocket.specs.Connection.{Connection, Effect, Outgoing, Sends, read_step, failed_connection}
use Rattle.websocket.specs.declared.protocol.message.Received.{Received}
use Rattle.websocket.specs.declared.protocol.message.Received.TheVariants as received
use Rattle.web_frames.specs.declared.arrival.Arrival.{Arrival}
use Rattle.web_frames.specs.declared.arrival.Arrival.TheVariants as arrival
use Rattle.web_frames.specs.declared.breach.Breach.{Breach}
use Rattle.web_frames.specs.declared.breach.Breach.TheVariants as breach
use Rattle.web_frames.specs.declared.coming.Kind.TheVariants as kind
use Rattle.web_frames.specs.declared.coming.Unadded.{Unadded}
use Rattle.web_frames.specs.declared.coming.Unadded.TheVariants as unadded
use Rattle.web_frames.specs.declared.frames.Frame.{Frame}
use Rattle.web_frames.specs.declared.frames.Frames.{Frames}
use Rattle.web_frames.specs.Headers.{may_come}
use Rattle.web_frames.specs.Input.{bytes_of}
use Rattle.web_frames.specs.Messages.{Open, opened, added, finished, shown}

-- all that is known between two looks: the connection, what has come and was not taken, the data frame of which a part was taken, and the
-- message of which a fragment is still to come
pub record Reading : Type 0 where
  pub role : Role
  pub connection : Connection
  pub input : List ℕ
  pub frame : Option Frame
  pub message : Option Open

-- of a connection that begins with these bytes
abbrev pub IsFresh : Role → List ℕ → Reading → Type 0
IsFresh role early r =
    (r.role ≡ role) × (r.connection.role ≡ role) × (r.connection.state ≡ Active) × (r.connection.fragments ≡ None) × (r.input ≡ early) × (r.frame ≡ None) × (r.message ≡ None)

-- what a look finds: what it is, the frame that answers it, and what is known afterwards
pub record Look : Type 0 where
  pub found : Arrival
  pub reply : Option Outgoing
  pub next : Reading

abbrev pub finds : Arrival → Reading → Look
finds found next = record { found = found; reply = None; next = next }

-- ---- data frames: what has come of one is taken at once

-- the key of the rest of a payload of which this many bytes were unmasked
abbrev pub turned : List ℕ → ℕ → List ℕ
turned key n = drop (n % 4) key ++ take (n % 4) key

-- the frame without this many bytes of its payload
abbrev pub rest_of : Frame → ℕ → Frame
rest_of f n = record { left = f.left - n; key = option_map (λ key. turned key n) f.key; is_final = f.is_final }

abbrev pub on_finished : Reading → Result (List ℕ) Breach → Look
on_finished r (Ok m) = finds (arrival.Message m) r
on_finished r (Err b) = finds (arrival.Breach b) r

-- the payload is complete: the message is, after its last frame
abbrev pub on_frame_end : Reading → Bool → Open → Look
on_frame_end r true o = on_finished r (finished o)
on_frame_end r false o = finds arrival.Frame (record r { message = Some o })

-- this many bytes were added to the message, and more of the frame's are to come or not
abbrev pub on_taken : Reading → Frame → ℕ → Open → Bool → Look
on_taken r f n o true = finds arrival.Nothing (record r { frame = Some (rest_of f n); message = Some o })
on_taken r f n o false = on_frame_end r f.is_final o

-- a piece of this many bytes of the frame's payload was added, or breaks a rule
abbrev pub on_added : Reading → Frame → ℕ → Result Open Breach → Look
on_added r f n (Err b) = finds (arrival.Breach b) r
on_added r f n (Ok o) = on_taken r f n o (nat_lt n f.left)

-- what has come of the frame's payload is unmasked and added to the message
abbrev pub on_piece : Reading → Frame → ℕ → Option Open → Look
on_piece r f n None = finds (arrival.Breach breach.Protocol) (record r { frame = None })
on_piece r f n (Some o) =
    on_added (record r { input = drop n r.input; frame = None; message = None }) f n
    (added o (apply_mask_if f.key (take n r.input)))

unfoldable pub on_payload : Reading → Frame → Look
on_payload r f = on_piece r f (min f.left (length r.input)) r.message

-- a text or binary frame begins a message
abbrev pub begun : DataKind → Option Open → Option Open
begun kinds.Text message = Some (opened kind.Text)
begun kinds.Binary message = Some (opened kind.Binary)
begun kinds.Continue message = message

unfoldable pub on_data : Reading → FrameHeader → ℕ → DataKind → Look
on_data r h n k =
    on_payload (record r { input = drop (header_len h n) r.input; message = begun k r.message })
    (record { left = n; key = h.mask; is_final = h.is_final })

-- ---- control frames: a whole one is taken, and answered as section 5.5 has it

abbrev pub control_found : Option Content → Arrival
control_found None = arrival.Frame
control_found (Some (text _)) = arrival.Frame
control_found (Some (binary _)) = arrival.Frame
control_found (Some (ping _)) = arrival.Frame
control_found (Some (pong _)) = arrival.Frame
control_found (Some (close _)) = arrival.End

-- the breach that an error of a control frame is: a reason that is not UTF-8 (1007), and otherwise a frame that is not allowed (1002)
abbrev pub breach_of : Error → Breach
breach_of error.Utf8 = breach.Utf8
breach_of e = breach.Protocol

-- what it is for whoever reads, where memory may have run out too
abbrev pub refusal_of : Error → Arrival
refusal_of error.OutOfMemory = arrival.NoMemory
refusal_of error.Utf8 = arrival.Breach breach.Utf8
refusal_of e = arrival.Breach breach.Protocol

unfoldable pub on_control : Reading → Result (FrameStatus (ℕ × Effect)) Error → Look
on_control r (Err e) = finds (arrival.Breach (breach_of e)) (record r { connection = failed_connection r.connection; input = [] })
on_control r (Ok (Partial needed)) = finds arrival.Nothing r
on_control r (Ok (Complete p)) = record {
  found = control_found p.1.message;
  reply = p.1.reply;
  next = record r { connection = p.1.next; input = drop p.0 r.input };
}

-- ---- a look

abbrev pub on_opcode : Reading → FrameHeader → ℕ → OpCode → Look
on_opcode r h n (Control _) = on_control r (read_step r.connection r.input)
on_opcode r h n (Data k) = on_data r h n k

-- a frame with this header is taken if it is allowed, before any of its payload is awaited
abbrev pub on_judged : Reading → FrameHeader → ℕ → Bool → Look
on_judged r h n true = on_opcode r h n h.opcode
on_judged r h n false = finds (arrival.Breach breach.Protocol) r

abbrev pub on_header : Reading → Decoded (FrameHeader × ℕ) → Look
on_header r (Err _) = finds (arrival.Breach breach.Protocol) r
on_header r (Ok None) = finds arrival.Nothing r
on_header r (Ok (Some p)) = on_judged r p.0 p.1 (may_come r.role (is_some r.message) p.0 p.1)

abbrev pub look_at : Reading → Option Frame → Look
look_at r (Some f) = on_payload r f
look_at r None = on_header r (decode_header r.input)

unfoldable pub look : Reading → Look
look r = look_at r r.frame

-- ---- how the values of the code show this

abbrev pub reading_of : Frames → Reading
reading_of f = record { role = f.role; connection = f.context; input = bytes_of f.input; frame = f.frame; message = option_map shown f.coming }

-- what the kit's step of a control frame is
abbrev pub step_found : Option Received → Arrival
step_found None = arrival.Frame
step_found (Some (received.Text _)) = arrival.Frame
step_found (Some (received.Binary _)) = arrival.Frame
step_found (Some (received.Ping _)) = arrival.Frame
step_found (Some (received.Pong _)) = arrival.Frame
step_found (Some (received.Close _)) = arrival.End

-- what it is for whoever reads that a piece was not added
abbrev pub unadded_found : Unadded → Arrival
unadded_found (unadded.Breach b) = arrival.Breach b
unadded_found unadded.NoMemory = arrival.NoMemory

-- a message, unless memory ran out
abbrev pub IsMessage : Arrival → List ℕ → Type 0
IsMessage (arrival.Message m) bytes = m ≡ bytes
IsMessage arrival.NoMemory bytes = ⊤
IsMessage arrival.Frame bytes = ⊥
IsMessage arrival.Nothing bytes = ⊥
IsMessage arrival.End bytes = ⊥
IsMessage (arrival.Breach b) bytes = ⊥

-- the look found this, and left this, unless memory ran out
abbrev pub Finds : Look → Arrival → Reading → Type 0
Finds l arrival.NoMemory new = ⊤
Finds l (arrival.Message m) new = (l.found ≡ arrival.Message m) × (l.next ≡ new)
Finds l (arrival.Breach b) new = (l.found ≡ arrival.Breach b) × (l.next ≡ new)
Finds l arrival.Frame new = (l.found ≡ arrival.Frame) × (l.next ≡ new)
Finds l arrival.Nothing new = (l.found ≡ arrival.Nothing) × (l.next ≡ new)
Finds l arrival.End new = (l.found ≡ arrival.End) × (l.next ≡ new)

-- the output gained the answer, or stayed as it was if memory ran out
abbrev pub Answers : Look → Arrival → List ℕ → List ℕ → Type 0
Answers l arrival.NoMemory old new = new ≡ old
Answers l (arrival.Message m) old new = Sends l.next.connection.role l.reply old new
Answers l (arrival.Breach b) old new = Sends l.next.connection.role l.reply old new
Answers l arrival.Frame old new = Sends l.next.connection.role l.reply old new
Answers l arrival.Nothing old new = Sends l.next.connection.role l.reply old new
Answers l arrival.End old new = Sends l.next.connection.role l.reply old new
