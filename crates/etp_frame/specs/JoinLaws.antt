-- The laws of joining.
use Rattle.std.specs.Prelude.{◌≡◌, ◌++◌, Bool, true, false, List, [], ◌∷◌, Option, None, Result, Ok, Err}
use Rattle.std.specs.List.{list_any}
use Rattle.msg_store.specs.declared.store_messages.StoreMessage.{StoreMessage}
use Rattle.msg_store.specs.declared.store_messages.StoreMessage.TheVariants as s
use Rattle.msg_store.specs.declared.store_messages.Chunk.{Chunk}
use Rattle.etp_frame.specs.Joining.{Awaited, joins}
use Rattle.etp_frame.specs.Whole.{whole_from}
use Rattle.etp_frame.specs.declared.header.Header.{Header}
use Rattle.etp_frame.specs.declared.joining.Joined.{Joined}
use Rattle.etp_frame.specs.declared.joining.Joined.TheVariants as j
use Rattle.etp_frame.specs.declared.joining.JoinError.{JoinError}
use Rattle.etp_frame.specs.declared.message.Message.{Message}
use Rattle.etp_frame.specs.declared.message.Message.TheVariants as m

-- what a joiner awaits after its answer: nothing, after a refusal
abbrev pub awaited_behind : Result (Joined × Option Awaited) JoinError → Option Awaited
awaited_behind (Ok r) = r.1
awaited_behind (Err e) = None

-- what a joiner awaits after messages
abbrev pub awaited_after : Option Awaited → List (Header × Message) → Option Awaited
awaited_after w [] = w
awaited_after w (x ∷ xs) = awaited_after (awaited_behind (joins w x.0 x.1)) xs

-- a message carries objects
abbrev pub store_brings : StoreMessage → Bool
store_brings (s.PutDataObjects x) = true
store_brings (s.GetDataObjectsResponse x) = true
store_brings x = false

abbrev pub brings_objects : Message → Bool
brings_objects (m.Store x) = store_brings x
brings_objects x = false

-- the chunk that a message is
abbrev pub store_chunks : StoreMessage → List Message
store_chunks (s.Chunk c) = m.Store (s.Chunk c) ∷ []
store_chunks x = []

abbrev pub chunk_of : Message → List Message
chunk_of (m.Store x) = store_chunks x
chunk_of x = []

-- the chunks among messages, in their order
abbrev pub chunks_among : List (Header × Message) → List Message
chunks_among [] = []
chunks_among (x ∷ xs) = chunk_of x.1 ++ chunks_among xs

-- A message that is whole with a chunk is composed of the message with objects that the joiner took first, all chunks that it took since,
-- and this one, whatever other messages came between them.
abbrev pub JoinsWhole : Type 0
JoinsWhole =
    (h k : Header) (first : Message) (between : List (Header × Message)) (c : Chunk) (x : Message) (left : Option Awaited) → brings_objects first ≡ true → list_any (λ y. brings_objects y.1) between ≡ false
    → joins (awaited_after (awaited_behind (joins None h first)) between) k (m.Store (s.Chunk c)) ≡ Ok (j.Whole x, left)
    → x ≡ whole_from first (chunks_among between ++ m.Store (s.Chunk c) ∷ [])

-- A message with objects that is whole at once is the message that came.
abbrev pub WholeAtOnce : Type 0
WholeAtOnce = (w left : Option Awaited) (h : Header) (first x : Message) → brings_objects first ≡ true → joins w h first ≡ Ok (j.Whole x, left) → x ≡ first
