-- Cutting bytes into chunks, one after the other, and objects as they are sent.
use Rattle.std.proofs.Common.{◌≡◌, ◌∙◌, ◌++◌, ◌+◌, ◌-◌, ◌*◌, ◌/◌, ◌<◌, ◌≤◌, ℕ, zero, suc, Bool, true, false, cond, List, [], ◌∷◌, map, length, take, drop, slice_range, refl, sym, ap, subst, append_assoc, drop-drop, div-mul-le_self, arith}
use Rattle.std.proofs.lemmas.List.{take_all, length-drop}
use Rattle.std.specs.Cmp.Lexicographic.{slice_cmp}
use Rattle.std.specs.List.Sorted.{IsStrictlySortedBy}
use Rattle.std.specs.Map.{keys_of}
use Rattle.std.specs.Ordering.{nat_cmp}
use Rattle.etp_values.proofs.ListLemmas.{range_taken}
use Rattle.msg_store.specs.declared.store_messages.Chunk.{Chunk}
use Rattle.msg_store.specs.declared.store_messages.StoreMessage.TheVariants as s
use Rattle.etp_frame.specs.Joining.{Objects}
use Rattle.etp_frame.specs.declared.message.Message.{Message}
use Rattle.etp_frame.specs.declared.message.Message.TheVariants as m
use Rattle.etp_frame.specs.Chunking.{chunk, chunks_from, chunks_of, chunk_size, in_place, in_chunks, is_long, blob_id, next_blob, as_sent, chunk_messages, with_chunks}
use Rattle.etp_frame.specs.declared.sending.Sent.{Sent}
use Rattle.etp_frame.proofs.FedLemmas.{Object}
use Rattle.etp_frame.proofs.LoopLemmas.{Sorted}

-- ---- chunks

module _ (size : ℕ) (id bytes : List ℕ) where
  pub chunk_first : (left len : ℕ) (made : List Chunk) → made ≡ [] → left ≡ (len - 1) / size → len ≡ length bytes → made ++ chunks_from size id left (drop 0 bytes) ≡ chunks_of size id bytes
  chunk_first left len made empty is all =
      ap (λ (l : List Chunk). l ++ chunks_from size id left (drop 0 bytes)) empty ∙ ap (λ (n : ℕ). chunks_from size id n bytes) (is ∙ ap (λ (n : ℕ). (n - 1) / size) all)

  pub room_first : (left len : ℕ) → left ≡ (len - 1) / size → len ≡ length bytes → 0 + left * size ≤ length bytes
  room_first left len is all = subst (λ (n : ℕ). 0 + n * size ≤ length bytes) (sym is) (omega (arith, div-mul-le_self (len - 1) size, all))

module _ (size : ℕ) (id bytes : List ℕ) (all : List Chunk) where
  -- one chunk that is not the last
  chunk_suc : (k start : ℕ) (made : List Chunk) → made ++ chunks_from size id (suc k) (drop start bytes) ≡ all
      → (made ++ chunk id (take size (drop start bytes)) false ∷ []) ++ chunks_from size id k (drop (start + size) bytes) ≡ all
  chunk_suc k start made h =
      append_assoc made (chunk id (take size (drop start bytes)) false ∷ []) (chunks_from size id k (drop (start + size) bytes))
      ∙ ap (λ (b : List ℕ). made ++ chunk id (take size (drop start bytes)) false ∷ chunks_from size id k b) (sym (drop-drop size start bytes))
      ∙ h

  pub chunk_more : (left start : ℕ) (made next : List Chunk) (piece : List ℕ) → 0 < left → piece ≡ slice_range bytes start (start + size) → next ≡ made ++ chunk id piece false ∷ [] → made ++ chunks_from size id left (drop start bytes) ≡ all
      → next ++ chunks_from size id (left - 1) (drop (start + size) bytes) ≡ all
  chunk_more zero start made next piece some is push h = absurd (omega arith)
  chunk_more (suc k) start made next piece some is push h =
      let e : suc k - 1 ≡ k = omega arith in
      (λ i. (push ∙ ap (λ (b : List ℕ). made ++ chunk id b false ∷ []) (is ∙ range_taken bytes start size)) i ++ chunks_from size id (e i) (drop (start + size) bytes)) ∙ chunk_suc k start made h

  -- the last chunk has the rest
  pub chunk_last : (left start len : ℕ) (made next : List Chunk) (piece : List ℕ) → left ≤ 0 → len ≡ length bytes → piece ≡ slice_range bytes start len → next ≡ made ++ chunk id piece true ∷ [] → made ++ chunks_from size id left (drop start bytes) ≡ all → next ≡ all
  chunk_last left start len made next piece none same is push h =
      let e : 0 ≡ left = omega (arith, none) in
      let rest : slice_range bytes start (length bytes) ≡ drop start bytes = take_all (length bytes - start) (drop start bytes) (omega (arith, length-drop start bytes)) in
      push ∙ ap (λ (b : List ℕ). made ++ chunk id b true ∷ []) (is ∙ ap (λ (n : ℕ). slice_range bytes start n) same ∙ rest) ∙ ap (λ (n : ℕ). made ++ chunks_from size id n (drop start bytes)) e ∙ h

-- the room that this many chunks of one size take
pub room_more : (left size start len : ℕ) → 0 < left → start + left * size ≤ len → start + size + (left - 1) * size ≤ len
room_more zero size start len some h = absurd (omega arith)
room_more (suc k) size start len some h = let e : suc k - 1 ≡ k = omega arith in subst (λ (n : ℕ). start + size + n * size ≤ len) (sym e) (omega (arith, h))

pub room_one : (left size start len : ℕ) → 0 < left → start + left * size ≤ len → start + size ≤ len
room_one zero size start len some h = absurd (omega arith)
room_one (suc k) size start len some h = omega (arith, h)

pub room_left : (left size start len : ℕ) → start + left * size ≤ len → start ≤ len
room_left left size start len h = omega (arith, h)

-- ---- objects as they are sent

sent_one : (limit number k : ℕ) (x : Object) (xs : Objects) (t : Bool)
    → cond t (in_chunks (chunk_size limit) (blob_id number (cond t (next_blob k) k)) x) (in_place x) ∷ as_sent limit number (cond t (next_blob k) k) xs
    ≡ cond t (in_chunks (chunk_size limit) (blob_id number (next_blob k)) x ∷ as_sent limit number (next_blob k) xs) (in_place x ∷ as_sent limit number k xs)
sent_one limit number k x xs true = refl
sent_one limit number k x xs false = refl

pub sent_step : (limit number k : ℕ) (x : Object) (rest : Objects) (made next : List Sent) (one : Sent) (behind : ℕ) → next ≡ made ++ one ∷ []
    → one ≡ cond (is_long limit x.1.payload) (in_chunks (chunk_size limit) (blob_id number behind) x) (in_place x) → behind ≡ cond (is_long limit x.1.payload) (next_blob k) k
    → next ++ as_sent limit number behind rest ≡ made ++ as_sent limit number k (x ∷ rest)
sent_step limit number k x rest made next one behind push is count =
    ap (λ (l : List Sent). l ++ as_sent limit number behind rest) push
    ∙ append_assoc made (one ∷ []) (as_sent limit number behind rest)
    ∙ ap (λ (o : Sent). made ++ o ∷ as_sent limit number behind rest) is
    ∙ ap (λ (n : ℕ). made ++ cond (is_long limit x.1.payload) (in_chunks (chunk_size limit) (blob_id number n) x) (in_place x) ∷ as_sent limit number n rest) count
    ∙ ap (λ (l : List Sent). made ++ l) (sent_one limit number k x rest (is_long limit x.1.payload))

-- ---- objects are sent in the order of their keys

abbrev pub sent_key : Sent → List ℕ
sent_key y = y.object.0

key_at : (limit number k : ℕ) (x : Object) (a b : List Sent) (keys : List (List ℕ)) (t : Bool) → map sent_key a ≡ keys → map sent_key b ≡ keys
    → map sent_key (cond t (in_chunks (chunk_size limit) (blob_id number (next_blob k)) x ∷ a) (in_place x ∷ b)) ≡ x.0 ∷ keys
key_at limit number k x a b keys true h g = ap (λ (l : List (List ℕ)). x.0 ∷ l) h
key_at limit number k x a b keys false h g = ap (λ (l : List (List ℕ)). x.0 ∷ l) g

sent_keys : (limit number k : ℕ) (xs : Objects) → map sent_key (as_sent limit number k xs) ≡ keys_of xs
sent_keys limit number k [] = refl
sent_keys limit number k (x ∷ xs) =
    key_at limit number k x (as_sent limit number (next_blob k) xs) (as_sent limit number k xs) (keys_of xs) (is_long limit x.1.payload) (sent_keys limit number (next_blob k) xs) (sent_keys limit number k xs)

abbrev pub InOrder : List (List ℕ) → Type 0
InOrder ks = IsStrictlySortedBy (slice_cmp nat_cmp) ks

pub sent_sorted : (limit number k : ℕ) (xs : Objects) (sent : List Sent) → sent ≡ as_sent limit number k xs → InOrder (keys_of xs) → Sorted sent_key sent
sent_sorted limit number k xs sent is h = subst (λ (l : List Sent). Sorted sent_key l) (sym is) (subst (λ (ks : List (List ℕ)). InOrder ks) (sym (sent_keys limit number k xs)) h)

object_keys : (xs : List Sent) → map sent_key xs ≡ keys_of (map (λ (y : Sent). y.object) xs)
object_keys [] = refl
object_keys (x ∷ xs) = ap (λ (l : List (List ℕ)). x.object.0 ∷ l) (object_keys xs)

pub objects_sorted : (sent : List Sent) (xs : Objects) → xs ≡ map (λ (y : Sent). y.object) sent → InOrder (map (λ (y : Sent). y.object.0) sent) → InOrder (keys_of xs)
objects_sorted sent xs is h = subst (λ (ks : List (List ℕ)). InOrder ks) (object_keys sent ∙ ap (λ (l : Objects). keys_of l) (sym is)) h

-- a message with objects, and then their chunks
pub with_chunks_first : (again : Objects → Message) (old new rest : List Message) (message : Message) (xs : Objects) (sent : List Sent) → new ≡ old ++ message ∷ [] → message ≡ again xs → xs ≡ map (λ (y : Sent). y.object) sent → rest ≡ chunk_messages sent
    → new ++ rest ≡ old ++ with_chunks again sent
with_chunks_first again old new rest message xs sent push is objects chunks =
    ap (λ (l : List Message). l ++ rest) push
    ∙ append_assoc old (message ∷ []) rest
    ∙ ap (λ (x : Message). old ++ x ∷ rest) (is ∙ ap again objects)
    ∙ ap (λ (l : List Message). old ++ again (map (λ (y : Sent). y.object) sent) ∷ l) chunks

-- what was added first
pub only_parts : (again : Objects → Message) (empty new : List Message) (sent all : List Sent) → empty ≡ [] → new ≡ empty ++ with_chunks again sent → sent ≡ all → new ≡ with_chunks again all
only_parts again empty new sent all nothing push is = push ∙ ap (λ (l : List Message). l ++ with_chunks again sent) nothing ∙ ap (λ (l : List Sent). with_chunks again l) is

-- a part of a reply with objects, and its chunks
abbrev pub in_reply : List Sent → List Message
in_reply xs = with_chunks (λ g. m.Store (s.GetDataObjectsResponse (record { data_objects = g }))) xs
