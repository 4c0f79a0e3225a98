-- Objects and the chunks of their data, joined.
use Rattle.std.specs.Prelude.{ℕ, ℤ, Bool, false, not, ◌&&◌, ◌||◌, ◌+◌, List, [], ◌∷◌, ◌++◌, length, Option, Some, None, is_some, Result, Ok, Err, nat_lt, if◌then◌else◌}
use Rattle.std.specs.List.{list_any}
use Rattle.std.specs.Ordering.{int_eq}
use Rattle.std.specs.Str.{bytes_eq}
use Rattle.msg_store.specs.declared.store_messages.DataObject.{DataObject}
use Rattle.msg_store.specs.declared.store_messages.Chunk.{Chunk}
use Rattle.msg_store.specs.declared.store_messages.StoreMessage.{StoreMessage}
use Rattle.msg_store.specs.declared.store_messages.StoreMessage.TheVariants as s
use Rattle.etp_frame.specs.declared.awaiting.Carrier.{Carrier}
use Rattle.etp_frame.specs.declared.awaiting.Carrier.TheVariants as carrier
use Rattle.etp_frame.specs.declared.header.Header.{Header}
use Rattle.etp_frame.specs.declared.joining.Joined.{Joined}
use Rattle.etp_frame.specs.declared.joining.Joined.TheVariants as j
use Rattle.etp_frame.specs.declared.joining.JoinError.{JoinError}
use Rattle.etp_frame.specs.declared.joining.JoinError.TheVariants as e
use Rattle.etp_frame.specs.declared.message.Message.{Message}
use Rattle.etp_frame.specs.declared.message.Message.TheVariants as m

-- objects by their keys, as a message carries them
abbrev pub Objects : Type 0
Objects = List (List ℕ × DataObject)

-- ---- which blob an object awaits

-- the blob of an object is this one
abbrev pub is_blob : Option (List ℕ) → List ℕ → Bool
is_blob None id = false
is_blob (Some own) id = bytes_eq own id

-- an object awaits this blob
abbrev pub awaits : List ℕ → (List ℕ × DataObject) → Bool
awaits id x = is_blob x.1.blob_id id

-- an object awaits a blob
abbrev pub awaits_any : (List ℕ × DataObject) → Bool
awaits_any x = is_some x.1.blob_id

-- an object awaits a blob although it has data
abbrev pub is_double : (List ℕ × DataObject) → Bool
is_double x = awaits_any x && nat_lt 0 (length x.1.payload)

-- one of the objects awaits this blob
abbrev pub is_awaited : Option (List ℕ) → Objects → Bool
is_awaited None xs = false
is_awaited (Some id) xs = list_any (awaits id) xs

-- two objects await one blob
abbrev pub shares_blob : Objects → Bool
shares_blob [] = false
shares_blob (x ∷ xs) = is_awaited x.1.blob_id xs || shares_blob xs

-- how many bytes of data the objects have together
abbrev pub data_size : Objects → ℕ
data_size [] = 0
data_size (x ∷ xs) = length x.1.payload + data_size xs

-- the maximum total size of the data of one message's objects, in bytes
abbrev pub data_limit : ℕ
data_limit = 67108864

-- ---- how data grow

-- an object with a further piece of its data; with the last piece it awaits nothing more
abbrev pub grown : DataObject → Chunk → DataObject
grown o c = record o { blob_id = if c.last then None else o.blob_id; payload = o.payload ++ c.payload }

-- the first object that awaits a piece's blob gets the piece
abbrev pub fed : Objects → Chunk → Objects
fed [] c = []
fed (x ∷ xs) c = if awaits c.blob_id x then (x.0, grown x.1 c) ∷ xs else x ∷ fed xs c

-- a message with objects
abbrev pub carried : Carrier → Objects → Message
carried (carrier.Put prune) xs = m.Store (s.PutDataObjects (record { data_objects = xs; prune_contained_objects = prune }))
carried carrier.Reply xs = m.Store (s.GetDataObjectsResponse (record { data_objects = xs }))

-- ---- the joiner

-- A message that awaits data: the correlation of its chunks, what carries its objects, the objects with the data that have come so far, and
-- the blob of which a piece has come and the last has not.
pub record Awaited : Type 0 where
  pub correlation : ℤ
  pub carrier : Carrier
  pub objects : Objects
  pub begun : Option (List ℕ)

-- what there is of a message: all of it, if no object awaits data
abbrev pub grows : Awaited → Joined × Option Awaited
grows w = if list_any awaits_any w.objects then (j.More, Some w) else (j.Whole (carried w.carrier w.objects), None)

-- a message that came with objects
abbrev pub came : Option Awaited → ℤ → Carrier → Objects → Result (Joined × Option Awaited) JoinError
came w correlation carrier xs =
    if list_any is_double xs || shares_blob xs then Err e.WrongBlob
    else if is_some w then Err e.Interleaved
    else if nat_lt data_limit (data_size xs) then Err e.TooLong
    else Ok (grows (record { correlation = correlation; carrier = carrier; objects = xs; begun = None }))

-- a blob other than this one has begun
abbrev pub is_other : Option (List ℕ) → List ℕ → Bool
is_other None id = false
is_other (Some begun) id = not (bytes_eq begun id)

-- why a chunk is refused while a message awaits data
abbrev pub chunk_refusal : Awaited → ℤ → Chunk → Option JoinError
chunk_refusal w correlation c =
    if not (int_eq correlation w.correlation && list_any (awaits c.blob_id) w.objects) then Some e.WrongBlob
    else if is_other w.begun c.blob_id then Some e.Interleaved
    else if nat_lt data_limit (data_size w.objects + length c.payload) then Some e.TooLong
    else None

-- a chunk that is not refused
abbrev pub with_piece : Awaited → Chunk → Awaited
with_piece w c = record w { objects = fed w.objects c; begun = if c.last then None else Some c.blob_id }

abbrev pub unless_refused : Option JoinError → Awaited → Result (Joined × Option Awaited) JoinError
unless_refused None w = Ok (grows w)
unless_refused (Some cause) w = Err cause

-- a chunk came
abbrev pub chunk_came : Option Awaited → ℤ → Chunk → Result (Joined × Option Awaited) JoinError
chunk_came None correlation c = Err e.NoBlob
chunk_came (Some w) correlation c = unless_refused (chunk_refusal w correlation c) (with_piece w c)

-- a message of the Store protocol came
abbrev pub store_came : Option Awaited → Header → StoreMessage → Result (Joined × Option Awaited) JoinError
store_came w h (s.PutDataObjects x) = came w h.id (carrier.Put x.prune_contained_objects) x.data_objects
store_came w h (s.GetDataObjectsResponse x) = came w h.correlation carrier.Reply x.data_objects
store_came w h (s.Chunk c) = chunk_came w h.correlation c
store_came w h x = Ok (j.Whole (m.Store x), w)

-- What a joiner answers to a message, and what it awaits then, from what it awaited; or why it refuses the message. After a refusal it
-- awaits nothing.
abbrev pub joins : Option Awaited → Header → Message → Result (Joined × Option Awaited) JoinError
joins w h (m.Store x) = store_came w h x
joins w h x = Ok (j.Whole x, w)

-- the message is at fault, and not the memory
abbrev pub IsJoinFault : JoinError → Type 0
IsJoinFault e.NoMemory = ⊥
IsJoinFault why = Unit {0}
