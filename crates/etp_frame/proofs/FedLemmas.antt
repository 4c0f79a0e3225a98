-- Which object a chunk goes to.
use Rattle.std.proofs.Common.{◌≡◌, ◌∙◌, ◌++◌, ℕ, Bool, true, false, cond, List, [], ◌∷◌, Option, Some, None, is_some, refl, sym, ap}
use Rattle.std.proofs.lemmas.Bool.{false≢true, or_parts}
use Rattle.std.proofs.lemmas.Slice.Eq.{bytes_eq-Decides}
use Rattle.std.specs.List.{list_any}
use Rattle.std.specs.Str.{bytes_eq}
use Rattle.msg_store.specs.declared.store_messages.Chunk.{Chunk}
use Rattle.msg_store.specs.declared.store_messages.DataObject.{DataObject}
use Rattle.etp_frame.specs.Joining.{Objects, is_blob, awaits, awaits_any, grown, fed}

abbrev pub Object : Type 0
Object = List ℕ × DataObject

-- an object with a chunk
abbrev pub with_data : Object → Chunk → Object
with_data x c = (x.0, grown x.1 c)

fed_here : (c : Chunk) (x : Object) (xs : Objects) → awaits c.blob_id x ≡ true → fed (x ∷ xs) c ≡ with_data x c ∷ xs
fed_here c x xs h = ap (λ (t : Bool). cond t (with_data x c ∷ xs) (x ∷ fed xs c)) h

fed_later : (c : Chunk) (x : Object) (xs : Objects) → awaits c.blob_id x ≡ false → fed (x ∷ xs) c ≡ x ∷ fed xs c
fed_later c x xs h = ap (λ (t : Bool). cond t (with_data x c ∷ xs) (x ∷ fed xs c)) h

none_awaited : (own : Option (List ℕ)) (id : List ℕ) → is_some own ≡ false → is_blob own id ≡ false
none_awaited None id h = refl
none_awaited (Some own) id h = absurd (false≢true (sym h))

pub self_blob : (id : List ℕ) → bytes_eq id id ≡ true
self_blob id = (bytes_eq-Decides id id).1 refl

-- a chunk goes past objects that await nothing to the one that awaits it
pub fed_past : (c : Chunk) (front : Objects) (x : Object) (later : Objects) → list_any awaits_any front ≡ false → awaits c.blob_id x ≡ true → fed (front ++ x ∷ later) c ≡ front ++ with_data x c ∷ later
fed_past c [] x later free at = fed_here c x later at
fed_past c (y ∷ ys) x later free at =
    let p = or_parts (awaits_any y) (list_any awaits_any ys) free in
    fed_later c y (ys ++ x ∷ later) (none_awaited y.1.blob_id c.blob_id p.0) ∙ ap (λ (l : Objects). y ∷ l) (fed_past c ys x later p.1 at)
