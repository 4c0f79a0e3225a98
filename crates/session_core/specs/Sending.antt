-- What is sent, in parts, with their headers.
use Rattle.std.specs.Prelude.{ℕ, ℤ, pos, Bool, true, false, List, [], ◌∷◌, ◌++◌, ◌+◌, ◌-◌, ◌^◌, ◌==◌, min, nat_le, Option, Some, None, if◌then◌else◌}
use Rattle.etp_schema.specs.Bodies.{is_protocol}
use Rattle.msg_core.specs.declared.core_messages.CoreMessage.{CoreMessage}
use Rattle.msg_core.specs.declared.core_messages.CoreMessage.TheVariants as core
use Rattle.etp_frame.specs.declared.message.Message.{Message}
use Rattle.etp_frame.specs.declared.message.Message.TheVariants as message
use Rattle.etp_frame.specs.Message.{message_body, protocol_of, Names}
use Rattle.etp_frame.specs.Wire.{IsPlain}
use Rattle.etp_frame.specs.Splitting.{blobs_in, parts}
use Rattle.session_core.specs.declared.state.Addressee.{Addressee}
use Rattle.session_core.specs.declared.state.Addressee.TheVariants as to
use Rattle.session_core.specs.declared.state.Part.{Part}
use Rattle.session_core.specs.declared.state.Saying.{Saying}
use Rattle.session_core.specs.declared.state.Request.{Request}
use Rattle.session_core.specs.declared.state.Outgoing.{Outgoing}
use Rattle.session_core.specs.declared.state.Phase.{Phase}
use Rattle.session_core.specs.declared.state.Phase.TheVariants as phase
use Rattle.session_core.specs.declared.state.End.TheVariants as end
use Rattle.session_core.specs.State.{State}

-- the greatest message id
abbrev pub max_id : ℕ
max_id = 4611686018427387904

-- an exception and an Acknowledge are sent under the protocol of what they answer, if the profile has it; otherwise under Core
abbrev pub common_protocol : ℤ → ℤ
common_protocol protocol = if is_protocol protocol then protocol else pos 0

-- a message of Core is sent under Core, except for those two
abbrev pub core_protocol : ℤ → CoreMessage → ℤ
core_protocol protocol (core.RequestSession m) = pos 0
core_protocol protocol (core.OpenSession m) = pos 0
core_protocol protocol (core.CloseSession m) = pos 0
core_protocol protocol (core.Ping m) = pos 0
core_protocol protocol (core.Pong m) = pos 0
core_protocol protocol (core.ProtocolException m) = common_protocol protocol
core_protocol protocol (core.Acknowledge m) = common_protocol protocol

-- any other message is sent under its own protocol
abbrev pub sent_under : ℤ → Message → ℤ
sent_under protocol (message.Core m) = core_protocol protocol m
sent_under protocol m = pos (protocol_of m)

-- ---- parts

-- a message's parts, of which the last ends it
abbrev pub ended : Addressee → List Message → List Part
ended to [] = []
ended to (m ∷ []) = record { to = to; message = m; last = true } ∷ []
ended to (m ∷ n ∷ ms) = record { to = to; message = m; last = false } ∷ ended to (n ∷ ms)

-- how many blobs were sent after a message, by how many were sent before; the count stops at the greatest 64-bit number
abbrev pub blobs_after : ℕ → ℕ → Message → ℕ
blobs_after limit blobs m = min (blobs + blobs_in limit m) (2 ^ 64 - 1)

-- the parts of all that is sent, in a session of this number, if parts have at most `limit` bytes and this many blobs were sent
abbrev pub cut_all : ℕ → ℕ → ℕ → List Saying → List Part
cut_all limit number blobs [] = []
cut_all limit number blobs (x ∷ xs) = ended x.to (parts limit number blobs x.message) ++ cut_all limit number (blobs_after limit blobs x.message) xs

-- how many blobs were sent after all that
abbrev pub blobs_sent : ℕ → ℕ → List Saying → ℕ
blobs_sent limit blobs [] = blobs
blobs_sent limit blobs (x ∷ xs) = blobs_sent limit (blobs_after limit blobs x.message) xs

-- ---- headers

-- a part goes to the request
abbrev pub is_reply : Addressee → Bool
is_reply to.Receipt = false
is_reply to.Request = true
is_reply to.Nobody = false

-- how many of the parts go to the request
abbrev pub replies_in : List Part → ℕ
replies_in [] = 0
replies_in (p ∷ ps) = (if is_reply p.to then 1 else 0) + replies_in ps

-- the last part of a reply is final, 0x02, and so is that of a notice; a receipt is not part of a reply
abbrev pub flags_to : Addressee → Bool → ℕ → ℤ
flags_to to.Receipt last left = pos 0
flags_to to.Request last left = if left == 0 then pos 2 else pos 0
flags_to to.Nobody last left = if last then pos 2 else pos 0

-- a notice answers nobody
abbrev pub correlation_to : Addressee → ℤ → ℤ
correlation_to to.Receipt id = id
correlation_to to.Request id = id
correlation_to to.Nobody id = pos 0

-- a part with this own id, followed by this many parts of the reply
abbrev pub outgoing : Request → ℕ → ℕ → Part → Outgoing
outgoing r id left p = record {
  header = record {
    protocol = sent_under r.protocol p.message;
    kind = pos (message_body p.message).number;
    correlation = correlation_to p.to r.id;
    id = pos id;
    flags = flags_to p.to p.last left;
  };
  message = p.message;
}

-- the parts, each with the next own id, as far as there are ids
abbrev pub numbered : Request → ℕ → List Part → List Outgoing
numbered r id [] = []
numbered r id (p ∷ ps) = if nat_le id max_id then outgoing r id (replies_in ps) p ∷ numbered r (id + 2) ps else []

-- whether there are too few ids for that
abbrev pub is_spent : ℕ → List Part → Bool
is_spent id [] = false
is_spent id (p ∷ ps) = if nat_le id max_id then is_spent (id + 2) ps else true

-- the next own id after that
abbrev pub next_after : ℕ → List Part → ℕ
next_after id [] = id
next_after id (p ∷ ps) = if nat_le id max_id then next_after (id + 2) ps else id

-- a session whose ids are spent has ended, whatever else ends it
abbrev pub spent_phase : Bool → Phase → Phase
spent_phase true p = phase.Ended end.IdsSpent
spent_phase false p = p

-- the state after this was sent to a request, or as notices
abbrev pub said : Request → List Saying → State → State
said r sayings s =
    let ps = cut_all s.limit s.number s.blobs sayings in
    record s {
      phase = spent_phase (is_spent s.next_id ps) s.phase;
      next_id = next_after s.next_id ps;
      blobs = blobs_sent s.limit s.blobs sayings;
      out = s.out ++ numbered r s.next_id ps;
    }

-- ---- what is left to send

-- what is sent first of these messages
abbrev pub first_of : List Outgoing → Option Outgoing
first_of [] = None
first_of (o ∷ os) = Some o

-- what is left then
abbrev pub rest_of : List Outgoing → List Outgoing
rest_of [] = []
rest_of (o ∷ os) = os

-- a message that can be written
abbrev pub IsWritable : Outgoing → Type 0
IsWritable o = Names o.header o.message × IsPlain o.header
