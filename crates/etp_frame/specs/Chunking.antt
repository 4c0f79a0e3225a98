-- Long data in chunks, and objects as they are sent.
use Rattle.std.specs.Prelude.{ℕ, zero, suc, ◌+◌, ◌-◌, ◌/◌, ◌^◌, min, max, Bool, true, false, List, [], ◌∷◌, ◌++◌, map, length, take, drop, Some, nat_lt, if◌then◌else◌}
use Rattle.std.specs.Int.{w64, to_be_bytes}
use Rattle.std.specs.List.{flat_map}
use Rattle.msg_store.specs.Store.{data_object_form}
use Rattle.msg_store.specs.declared.store_messages.Chunk.{Chunk}
use Rattle.msg_store.specs.declared.store_messages.DataObject.{DataObject}
use Rattle.msg_store.specs.declared.store_messages.StoreMessage.TheVariants as s
use Rattle.etp_frame.specs.Joining.{Objects}
use Rattle.etp_frame.specs.declared.message.Message.{Message}
use Rattle.etp_frame.specs.declared.message.Message.TheVariants as m
use Rattle.etp_frame.specs.Grouping.{Amount, entry_amount}
use Rattle.etp_frame.specs.declared.sending.Sent.{Sent}

-- how many bytes each chunk but the last has
abbrev pub chunk_size : ℕ → ℕ
chunk_size limit = max (limit / 2) 1

-- data are sent in chunks
abbrev pub is_long : ℕ → List ℕ → Bool
is_long limit bytes = nat_lt (limit / 2) (length bytes)

-- the identity of the k-th blob that is sent in the session of a number
abbrev pub blob_id : ℕ → ℕ → List ℕ
blob_id number k = to_be_bytes w64 number ++ to_be_bytes w64 k

-- the count of blobs after one more; it stops at the greatest 64-bit number
abbrev pub next_blob : ℕ → ℕ
next_blob k = min (k + 1) (2 ^ 64 - 1)

abbrev pub chunk : List ℕ → List ℕ → Bool → Chunk
chunk id bytes last = record { blob_id = id; payload = bytes; last = last }

-- bytes in chunks of one size, with this many before the last, which has the rest
abbrev pub chunks_from : ℕ → List ℕ → ℕ → List ℕ → List Chunk
chunks_from size id zero bytes = chunk id bytes true ∷ []
chunks_from size id (suc k) bytes = chunk id (take size bytes) false ∷ chunks_from size id k (drop size bytes)

-- the chunks of data: the last one has at least one byte
abbrev pub chunks_of : ℕ → List ℕ → List ℕ → List Chunk
chunks_of size id bytes = chunks_from size id ((length bytes - 1) / size) bytes

-- with its data in place
abbrev pub in_place : (List ℕ × DataObject) → Sent
in_place x = record { object = x; chunks = [] }

-- with its data in the chunks of a blob
abbrev pub in_chunks : ℕ → List ℕ → (List ℕ × DataObject) → Sent
in_chunks size id x = record { object = (x.0, record x.1 { blob_id = Some id; payload = [] }); chunks = chunks_of size id x.1.payload }

-- objects as they are sent, if this many blobs were sent in the session before
abbrev pub as_sent : ℕ → ℕ → ℕ → Objects → List Sent
as_sent limit number k [] = []
as_sent limit number k (x ∷ xs) =
    if is_long limit x.1.payload then in_chunks (chunk_size limit) (blob_id number (next_blob k)) x ∷ as_sent limit number (next_blob k) xs
    else in_place x ∷ as_sent limit number k xs

-- how many of the objects are sent in chunks
abbrev pub long_objects : ℕ → Objects → ℕ
long_objects limit [] = 0
long_objects limit (x ∷ xs) = (if is_long limit x.1.payload then 1 else 0) + long_objects limit xs

-- how many bytes and nodes an object takes as it is sent
abbrev pub sent_amount : Sent → Amount
sent_amount x = entry_amount data_object_form x.object

abbrev pub chunk_messages : List Sent → List Message
chunk_messages xs = flat_map (λ x. map (λ c. m.Store (s.Chunk c)) x.chunks) xs

-- a message with objects, followed by the chunks of their data in the order of the objects
abbrev pub with_chunks : (Objects → Message) → List Sent → List Message
with_chunks again xs = again (map (λ x. x.object) xs) ∷ chunk_messages xs
