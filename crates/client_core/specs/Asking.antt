-- Asks: what they send, and what they wait for.
use Rattle.std.specs.Prelude.{ℕ, ℤ, pos, ◌+◌, ◌-◌, ◌*◌, ◌^◌, ◌==◌, min, Bool, true, false, not, ◌||◌, List, [], ◌∷◌, ◌++◌, Option, Some, None, Ok, Err, length, nat_lt, if◌then◌else◌}
use Rattle.etp_frame.specs.Message.{message_body, protocol_of}
use Rattle.etp_frame.specs.Splitting.{blobs_in, parts}
use Rattle.etp_frame.specs.Wire.{message_bytes}
use Rattle.etp_frame.specs.declared.header.Header.{Header}
use Rattle.etp_frame.specs.declared.message.Message.{Message}
use Rattle.etp_frame.specs.declared.message.Message.TheVariants as message
use Rattle.msg_store.specs.declared.store_messages.StoreMessage.{StoreMessage}
use Rattle.msg_store.specs.declared.store_messages.StoreMessage.TheVariants as store
use Rattle.client_core.specs.Messages.{message_of, request_message}
use Rattle.client_core.specs.State.{State, Step, ended, first_heard, first_state, is_open}
use Rattle.client_core.specs.declared.ask.Ask.{Ask}
use Rattle.client_core.specs.declared.ask.Ask.TheVariants as ask
use Rattle.client_core.specs.declared.got.ClientError.TheVariants as error
use Rattle.client_core.specs.declared.state.Asked.{Asked}
use Rattle.client_core.specs.declared.state.Due.{Due}
use Rattle.client_core.specs.declared.state.Due.TheVariants as due

-- ---- what an ask waits for

abbrev pub due_of : Ask → Option Due
due_of (ask.PutSpace path) = Some due.SpacePut
due_of (ask.Put uri payload) = Some due.ObjectPut
due_of (ask.Get uri) = Some due.Object
due_of (ask.OpenChannel uri) = Some due.Opening
due_of (ask.Load points) = Some due.Load
due_of (ask.Meta uri) = Some due.Metadata
due_of (ask.Subscribe channel start) = Some (due.Subscription channel)
due_of (ask.Replace channel from to points) = Some due.Replacement
due_of (ask.Cut channel end) = Some due.Truncation
due_of (ask.Range channel from to) = Some (due.Range channel)
due_of ask.Spaces = Some due.Spaces
due_of (ask.Delete uri) = Some due.Deletion
due_of ask.Ping = Some due.Pong
due_of ask.Close = None

abbrev pub is_close : Ask → Bool
is_close ask.Close = true
is_close _ = false

-- ---- headers

-- the greatest message id
abbrev pub max_id : ℕ
max_id = 4611686018427387904

-- the maximum size of a message, in bytes
abbrev pub limit : ℕ
limit = 16777216

abbrev pub is_chunk_message : StoreMessage → Bool
is_chunk_message (store.Chunk x) = true
is_chunk_message _ = false

abbrev pub is_chunk : Message → Bool
is_chunk (message.Store x) = is_chunk_message x
is_chunk _ = false

-- a chunk names its put; any other message of a client answers nothing
abbrev pub correlation_of : ℕ → Message → ℤ
correlation_of first m = if is_chunk m then pos first else pos 0

-- the last message of an ask is flagged, 0x02
abbrev pub flags_of : Bool → ℤ
flags_of true = pos 2
flags_of false = pos 0

-- a message of the ask whose first id is `first`
abbrev pub header_of : ℕ → ℕ → Bool → Message → Header
header_of first id last m = record {
  protocol = pos (protocol_of m);
  kind = pos (message_body m).number;
  correlation = correlation_of first m;
  id = pos id;
  flags = flags_of last;
}

abbrev pub is_last : List Message → Bool
is_last ms = length ms == 0

-- the bytes of an ask's messages, each with the next even id
abbrev pub numbered : ℕ → ℕ → List Message → List (List ℕ)
numbered first id [] = []
numbered first id (m ∷ ms) = message_bytes (header_of first id (is_last ms) m) m ∷ numbered first (id + 2) ms

-- ---- asks

-- the messages in which one is sent: long data go in chunks
abbrev pub pieces : State → Message → List Message
pieces s m = parts limit 0 s.blobs m

-- the id of the last of these messages would pass the greatest
abbrev pub is_spent : ℕ → List Message → Bool
is_spent next ms = nat_lt (max_id + 2) (next + 2 * length ms)

-- the ask of this id waits for this, if for anything
abbrev pub asked_under : ℕ → Option Due → List Asked
asked_under id None = []
asked_under id (Some d) = record { id = pos id; due = d } ∷ []

-- these messages are to be sent, of an ask that waits for this
abbrev pub sends : Option Due → List Message → State → State
sends d ms s = record s {
  heard = record s.heard { asks = s.heard.asks ++ asked_under s.next d };
  next = s.next + 2 * length ms;
  out = s.out ++ numbered s.next s.next ms;
}

-- how many blobs were sent after a message; the count stops at the greatest 64-bit number
abbrev pub blobs_after : ℕ → Message → ℕ
blobs_after blobs m = min (blobs + blobs_in limit m) (2 ^ 64 - 1)

abbrev pub sends_message : Option Due → Message → State → State
sends_message d m s = record (sends d (pieces s m) s) { blobs = blobs_after s.blobs m }

-- a client that has closed its session has ended
abbrev pub closed_if : Bool → State → State
closed_if true s = ended s
closed_if false s = s

-- an ask with this message, which waits for this and may close the session, or is refused
abbrev pub asked_by : Bool → Option Due → Bool → Message → State → Step State ℤ
asked_by true d closes m s = record { state = s; result = Err error.State }
asked_by false d closes m s = record { state = closed_if closes (sends_message d m s); result = Ok (pos s.next) }

-- an ask with this message while the session is open: refused if there are not enough ids
abbrev pub asked_with : Option Due → Bool → Message → State → Step State ℤ
asked_with d closes m s = asked_by (is_spent s.next (pieces s m)) d closes m s

-- an ask at this moment: refused before the session is open, after the end, and if there are not enough ids
unfoldable pub asked : State → Ask → ℤ → Step State ℤ
asked s a moment = let m = message_of moment a in asked_by (not (is_open s.heard.phase) || is_spent s.next (pieces s m)) (due_of a) (is_close a) m s

-- the state with these asks and this to send, of one message
abbrev pub beginning : List Asked → List (List ℕ) → State
beginning asks out = record first_state { heard = record first_heard { asks = asks }; next = 4; out = out }

-- the client that begins at this moment
unfoldable pub begun : ℤ → State
begun moment = sends_message (Some due.Session) (request_message moment) first_state

-- ---- what is left to send

-- the message that is sent next, if one is left
abbrev pub first_of : List (List ℕ) → Option (List ℕ)
first_of [] = None
first_of (b ∷ bs) = Some b

-- the messages that are left after it
abbrev pub rest_of : List (List ℕ) → List (List ℕ)
rest_of [] = []
rest_of (b ∷ bs) = bs
