-- A joiner puts a message together from its parts.
use Rattle.std.proofs.Common.{◌≡◌, ◌∙◌, ◌++◌, ℤ, Bool, true, false, cond, ◌||◌, List, [], ◌∷◌, Option, Some, None, Result, Ok, Err, is_some, nat_lt, refl, sym, ap, subst}
use Rattle.std.proofs.lemmas.Bool.{false≢true, or_parts}
use Rattle.std.specs.List.{list_any}
use Rattle.msg_store.specs.declared.store_messages.StoreMessage.{StoreMessage}
use Rattle.msg_store.specs.declared.store_messages.StoreMessage.TheVariants as s
use Rattle.msg_store.specs.declared.store_messages.Chunk.{Chunk}
use Rattle.etp_frame.specs.declared.awaiting.Carrier.{Carrier}
use Rattle.etp_frame.specs.declared.awaiting.Carrier.TheVariants as carrier
use Rattle.etp_frame.specs.Joining.{Objects, Awaited, awaits_any, is_double, shares_blob, data_size, data_limit, fed, carried, grows, came, chunk_refusal, with_piece, unless_refused, joins}
use Rattle.etp_frame.specs.JoinLaws.{awaited_behind, awaited_after, brings_objects, chunks_among, JoinsWhole, WholeAtOnce}
use Rattle.etp_frame.specs.Whole.{whole_from, joined}
use Rattle.etp_frame.specs.declared.header.Header.{Header}
use Rattle.etp_frame.specs.declared.joining.Joined.{Joined}
use Rattle.etp_frame.specs.declared.joining.Joined.TheVariants as j
use Rattle.etp_frame.specs.declared.joining.JoinError.{JoinError}
use Rattle.etp_frame.specs.declared.joining.JoinError.TheVariants as e
use Rattle.etp_frame.specs.declared.message.Message.{Message}
use Rattle.etp_frame.specs.declared.message.Message.TheVariants as m

abbrev Answer : Type 0
Answer = Result (Joined × Option Awaited) JoinError

-- the message so far
abbrev so_far : Awaited → Message
so_far w = carried w.carrier w.objects

-- a chunk is fed to the objects of the message so far
pub carried_joined : (by : Carrier) (xs : Objects) (c : Chunk) → joined (carried by xs) (m.Store (s.Chunk c)) ≡ carried by (fed xs c)
carried_joined (carrier.Put prune) xs c = refl
carried_joined carrier.Reply xs c = refl

-- ---- what an answer says about the message so far: it is the one that is whole, or the one that is awaited

abbrev IsWhole : Message → Answer → Type 0
IsWhole x (Ok (j.Whole y, w)) = (y ≡ x) × (w ≡ None)
IsWhole x (Ok (j.More, None)) = ⊥
IsWhole x (Ok (j.More, Some w)) = so_far w ≡ x
IsWhole x (Err e) = Unit {0}

grown_whole : (w : Awaited) (t : Bool) → IsWhole (so_far w) (Ok (cond t (j.More, Some w) (j.Whole (so_far w), None)))
grown_whole w true = refl
grown_whole w false = (refl, refl)

grows_whole : (w : Awaited) → IsWhole (so_far w) (Ok (grows w))
grows_whole w = grown_whole w (list_any awaits_any w.objects)

-- a message with objects
came_at : (w : Awaited) (a b c : Bool) → IsWhole (so_far w) (cond a (Err e.WrongBlob) (cond b (Err e.Interleaved) (cond c (Err e.TooLong) (Ok (grows w)))))
came_at w true b c = tt
came_at w false true c = tt
came_at w false false true = tt
came_at w false false false = grows_whole w

came_whole : (before : Option Awaited) (correlation : ℤ) (by : Carrier) (xs : Objects) → IsWhole (carried by xs) (came before correlation by xs)
came_whole before correlation by xs =
    came_at (record { correlation = correlation; carrier = by; objects = xs; begun = None }) (list_any is_double xs || shares_blob xs) (is_some before) (nat_lt data_limit (data_size xs))

-- a chunk
piece_at : (w : Awaited) (r : Option JoinError) → IsWhole (so_far w) (unless_refused r w)
piece_at w None = grows_whole w
piece_at w (Some cause) = tt

piece_whole : (w : Awaited) (correlation : ℤ) (c : Chunk) → IsWhole (joined (so_far w) (m.Store (s.Chunk c))) (unless_refused (chunk_refusal w correlation c) (with_piece w c))
piece_whole w correlation c =
    subst (λ (x : Message). IsWhole x (unless_refused (chunk_refusal w correlation c) (with_piece w c))) (sym (carried_joined w.carrier w.objects c)) (piece_at (with_piece w c) (chunk_refusal w correlation c))

-- ---- one that awaits nothing

none_stays : (xs : List (Header × Message)) → list_any (λ y. brings_objects y.1) xs ≡ false → awaited_after None xs ≡ None
none_stays [] h = refl
none_stays (x ∷ xs) h =
    let p = or_parts (brings_objects x.1) (list_any (λ y. brings_objects y.1) xs) h in
    ap (λ (w : Option Awaited). awaited_after w xs) (at x.0 x.1 p.0) ∙ none_stays xs p.1
  where
    at_store : (h : Header) (x : StoreMessage) → brings_objects (m.Store x) ≡ false → awaited_behind (joins None h (m.Store x)) ≡ None
    at_store h (s.PutDataObjects x) b = absurd (false≢true (sym b))
    at_store h (s.GetDataObjectsResponse x) b = absurd (false≢true (sym b))
    at_store h (s.Chunk x) b = refl
    at_store h x b = refl

    at : (h : Header) (x : Message) → brings_objects x ≡ false → awaited_behind (joins None h x) ≡ None
    at h (m.Store x) b = at_store h x b
    at h x b = refl

err_ok : {A B : Type 0} (e : B) (a : A) → Err e ≡ Ok a → ⊥
err_ok e a h = cc

-- ---- the run

-- what the last chunk makes of what is awaited
abbrev Last : Header → Chunk → Message → Option Awaited → Option Awaited → Type 0
Last k c x left w = joins w k (m.Store (s.Chunk c)) ≡ Ok (j.Whole x, left)

no_last : (k : Header) (c : Chunk) (x : Message) (left : Option Awaited) (xs : List (Header × Message)) → list_any (λ y. brings_objects y.1) xs ≡ false → Last k c x left (awaited_after None xs) → ⊥
no_last k c x left xs h last = err_ok e.NoBlob (j.Whole x, left) (subst (Last k c x left) (none_stays xs h) last)

whole_is : (x y : Message) (left : Option Awaited) (r : Answer) → IsWhole y r → r ≡ Ok (j.Whole x, left) → x ≡ y
whole_is x y left r w h = (subst (IsWhole y) h w).0

-- what holds after each message that may be awaited then
abbrev Runs : Header → Chunk → Message → Option Awaited → List (Header × Message) → Type 0
Runs k c x left xs = (w : Awaited) → Last k c x left (awaited_after (Some w) xs) → x ≡ whole_from (so_far w) (chunks_among xs ++ m.Store (s.Chunk c) ∷ [])

run_piece : (k : Header) (c : Chunk) (x : Message) (left : Option Awaited) (w : Awaited) (y : Chunk) (ys : List (Header × Message)) → list_any (λ z. brings_objects z.1) ys ≡ false → Runs k c x left ys → (r : Answer) → IsWhole (joined (so_far w) (m.Store (s.Chunk y))) r
    → Last k c x left (awaited_after (awaited_behind r) ys) → x ≡ whole_from (joined (so_far w) (m.Store (s.Chunk y))) (chunks_among ys ++ m.Store (s.Chunk c) ∷ [])
run_piece k c x left w y ys rest more (Err e) is last = absurd (no_last k c x left ys rest last)
run_piece k c x left w y ys rest more (Ok (j.Whole z, v)) is last = absurd (no_last k c x left ys rest (subst (λ (u : Option Awaited). Last k c x left (awaited_after u ys)) is.1 last))
run_piece k c x left w y ys rest more (Ok (j.More, None)) is last = absurd is
run_piece k c x left w y ys rest more (Ok (j.More, Some v)) is last = more v last ∙ ap (λ (z : Message). whole_from z (chunks_among ys ++ m.Store (s.Chunk c) ∷ [])) is

run_store : (k : Header) (c : Chunk) (x : Message) (left : Option Awaited) (w : Awaited) (h : Header) (y : StoreMessage) (ys : List (Header × Message)) → brings_objects (m.Store y) ≡ false
    → list_any (λ z. brings_objects z.1) ys ≡ false → Runs k c x left ys → Last k c x left (awaited_after (Some w) ((h, m.Store y) ∷ ys)) → x ≡ whole_from (so_far w) (chunks_among ((h, m.Store y) ∷ ys) ++ m.Store (s.Chunk c) ∷ [])
run_store k c x left w h (s.PutDataObjects y) ys b rest more last = absurd (false≢true (sym b))
run_store k c x left w h (s.GetDataObjectsResponse y) ys b rest more last = absurd (false≢true (sym b))
run_store k c x left w h (s.Chunk y) ys b rest more last = run_piece k c x left w y ys rest more (unless_refused (chunk_refusal w h.correlation y) (with_piece w y)) (piece_whole w h.correlation y) last
run_store k c x left w h y ys b rest more last = more w last

run_one : (k : Header) (c : Chunk) (x : Message) (left : Option Awaited) (w : Awaited) (h : Header) (y : Message) (ys : List (Header × Message)) → brings_objects y ≡ false → list_any (λ z. brings_objects z.1) ys ≡ false
    → Runs k c x left ys → Last k c x left (awaited_after (Some w) ((h, y) ∷ ys)) → x ≡ whole_from (so_far w) (chunks_among ((h, y) ∷ ys) ++ m.Store (s.Chunk c) ∷ [])
run_one k c x left w h (m.Store y) ys b rest more last = run_store k c x left w h y ys b rest more last
run_one k c x left w h y ys b rest more last = more w last

run : (k : Header) (c : Chunk) (x : Message) (left : Option Awaited) (xs : List (Header × Message)) → list_any (λ y. brings_objects y.1) xs ≡ false → Runs k c x left xs
run k c x left [] h w last = whole_is x (joined (so_far w) (m.Store (s.Chunk c))) left (unless_refused (chunk_refusal w k.correlation c) (with_piece w c)) (piece_whole w k.correlation c) last
run k c x left (y ∷ ys) h w last =
    let p = or_parts (brings_objects y.1) (list_any (λ z. brings_objects z.1) ys) h in
    run_one k c x left w y.0 y.1 ys p.0 p.1 (run k c x left ys p.1) last

from_first : (k : Header) (c : Chunk) (x first : Message) (left : Option Awaited) (xs : List (Header × Message)) → list_any (λ y. brings_objects y.1) xs ≡ false → (r : Answer) → IsWhole first r
    → Last k c x left (awaited_after (awaited_behind r) xs) → x ≡ whole_from first (chunks_among xs ++ m.Store (s.Chunk c) ∷ [])
from_first k c x first left xs h (Err e) is last = absurd (no_last k c x left xs h last)
from_first k c x first left xs h (Ok (j.Whole z, v)) is last = absurd (no_last k c x left xs h (subst (λ (u : Option Awaited). Last k c x left (awaited_after u xs)) is.1 last))
from_first k c x first left xs h (Ok (j.More, None)) is last = absurd is
from_first k c x first left xs h (Ok (j.More, Some v)) is last = run k c x left xs h v last ∙ ap (λ (z : Message). whole_from z (chunks_among xs ++ m.Store (s.Chunk c) ∷ [])) is

brought_store : (w : Option Awaited) (h : Header) (first : StoreMessage) → brings_objects (m.Store first) ≡ true → IsWhole (m.Store first) (joins w h (m.Store first))
brought_store w h (s.PutDataObjects x) b = came_whole w h.id (carrier.Put x.prune_contained_objects) x.data_objects
brought_store w h (s.GetDataObjectsResponse x) b = came_whole w h.correlation carrier.Reply x.data_objects
brought_store w h x b = absurd (false≢true b)

brought : (w : Option Awaited) (h : Header) (first : Message) → brings_objects first ≡ true → IsWhole first (joins w h first)
brought w h (m.Store x) b = brought_store w h x b
brought w h x b = absurd (false≢true b)

pub joins_whole : JoinsWhole
joins_whole h k first between c x left b none last = from_first k c x first left between none (joins None h first) (brought None h first b) last

pub whole_at_once : WholeAtOnce
whole_at_once w left h first x b is = whole_is x first left (joins w h first) (brought w h first b) is
