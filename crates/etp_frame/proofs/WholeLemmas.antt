-- The parts of a message of which a list or a map grows, and of one with objects, are the message.
use Rattle.std.proofs.Common.{◌≡◌, ◌∙◌, ◌++◌, ℕ, zero, suc, Bool, true, false, cond, ◌||◌, List, [], ◌∷◌, map, take, drop, Option, Some, None, is_some, refl, sym, ap, append_assoc, append-nil, take-append-drop}
use Rattle.std.proofs.lemmas.Bool.{false≢true, or_parts}
use Rattle.std.specs.List.{list_any, flat_map}
use Rattle.msg_store.specs.declared.store_messages.Chunk.{Chunk}
use Rattle.msg_store.specs.declared.store_messages.StoreMessage.TheVariants as s
use Rattle.etp_frame.specs.Joining.{Objects, awaits_any, fed}
use Rattle.etp_frame.specs.Whole.{joined, whole_from, whole}
use Rattle.etp_frame.specs.declared.message.Message.{Message}
use Rattle.etp_frame.specs.declared.message.Message.TheVariants as m
use Rattle.etp_frame.specs.Chunking.{in_place, in_chunks, chunk, chunk_size, chunks_from, is_long, blob_id, next_blob, as_sent, sent_amount, with_chunks, chunk_messages}
use Rattle.etp_frame.specs.Grouping.{Amount, groups_from, groups}
use Rattle.etp_frame.specs.declared.sending.Sent.{Sent}
use Rattle.etp_frame.proofs.FedLemmas.{Object, self_blob, fed_past}
use Rattle.etp_frame.proofs.GroupLemmas.{by_room, of_groups}

-- ---- a message whose items are in groups

module _ {A : Type 0} (size : A → Amount) (limit : ℕ) (again : List A → Message) (grows : (a b : List A) → joined (again a) (again b) ≡ again (a ++ b)) where
  abbrev From : List A → List (List A) → List A → Type 0
  From front gs all = whole_from (again front) (map again gs) ≡ again (front ++ all)

  from_groups : (front held xs : List A) → From front (groups_from size limit held xs) (held ++ xs)
  from_groups front held [] = grows front held ∙ ap (λ (l : List A). again (front ++ l)) (sym (append-nil held))
  from_groups front held (x ∷ xs) =
      by_room size limit (λ gs. From front gs (held ++ x ∷ xs)) held x xs
      (from_groups front (held ++ x ∷ []) xs ∙ ap (λ (l : List A). again (front ++ l)) (append_assoc held (x ∷ []) xs))
      (ap (λ (z : Message). whole_from z (map again (groups_from size limit (x ∷ []) xs))) (grows front held)
      ∙ from_groups (front ++ held) (x ∷ []) xs
      ∙ ap again (append_assoc front held (x ∷ xs)))

  whole_groups : (gs : List (List A)) (g : List A) → whole (map again (g ∷ gs)) ≡ Some (whole_from (again []) (map again (g ∷ gs)))
  whole_groups gs g = ap (λ (z : Message). Some (whole_from z (map again gs))) (sym (grows [] g))

  pub all_parts : (xs : List A) → whole (map again (groups size limit xs)) ≡ Some (again xs)
  all_parts xs =
      of_groups size limit (λ gs. whole (map again gs) ≡ Some (whole_from (again []) (map again gs))) (λ g gs. whole_groups gs g) [] xs ∙ ap (λ (z : Message). Some z) (from_groups [] [] xs)

-- ---- objects with chunks in their order

abbrev fed_by : Objects → List Chunk → Objects
fed_by xs [] = xs
fed_by xs (c ∷ cs) = fed_by (fed xs c) cs

abbrev as_message : Chunk → Message
as_message c = m.Store (s.Chunk c)

-- an object of which this many bytes came
abbrev partly : Object → List ℕ → List ℕ → Object
partly x id bytes = (x.0, record x.1 { blob_id = Some id; payload = bytes })

abbrev wholly : Object → List ℕ → Object
wholly x bytes = (x.0, record x.1 { blob_id = None; payload = bytes })

chunks_fed : (size : ℕ) (id : List ℕ) (k : ℕ) (front : Objects) (x : Object) (later : Objects) (so_far bytes : List ℕ) → list_any awaits_any front ≡ false
    → fed_by (front ++ partly x id so_far ∷ later) (chunks_from size id k bytes) ≡ front ++ wholly x (so_far ++ bytes) ∷ later
chunks_fed size id zero front x later so_far bytes free = fed_past (chunk id bytes true) front (partly x id so_far) later free (self_blob id)
chunks_fed size id (suc k) front x later so_far bytes free =
    ap (λ (l : Objects). fed_by l (chunks_from size id k (drop size bytes))) (fed_past (chunk id (take size bytes) false) front (partly x id so_far) later free (self_blob id))
    ∙ chunks_fed size id k front x later (so_far ++ take size bytes) (drop size bytes) free
    ∙ ap (λ (b : List ℕ). front ++ wholly x b ∷ later) (append_assoc so_far (take size bytes) (drop size bytes) ∙ ap (λ (b : List ℕ). so_far ++ b) (take-append-drop size bytes))

-- an object as it is sent becomes this one with its chunks, and awaits nothing
pub record Restores (x : Sent) (y : Object) : Type 0 where
  pub back : (front later : Objects) → list_any awaits_any front ≡ false → fed_by (front ++ x.object ∷ later) x.chunks ≡ front ++ y ∷ later
  pub done : awaits_any y ≡ false

abbrev pub RestoresAll : List Sent → Objects → Type 0
RestoresAll [] [] = Unit {0}
RestoresAll [] (y ∷ ys) = ⊥
RestoresAll (x ∷ xs) [] = ⊥
RestoresAll (x ∷ xs) (y ∷ ys) = Restores x y × RestoresAll xs ys

no_blob : (own : Option (List ℕ)) → is_some own ≡ false → None ≡ own
no_blob None h = refl
no_blob (Some id) h = absurd (false≢true (sym h))

restored_chunks : (size k : ℕ) (id : List ℕ) (x : Object) → awaits_any x ≡ false → Restores (record { object = partly x id []; chunks = chunks_from size id k x.1.payload }) x
restored_chunks size k id x still = record {
  back = λ front later free. chunks_fed size id k front x later [] x.1.payload free ∙ (λ i. front ++ (x.0, record x.1 { blob_id = no_blob x.1.blob_id still i }) ∷ later);
  done = still;
}

restored_place : (x : Object) → awaits_any x ≡ false → Restores (in_place x) x
restored_place x still = record { back = λ front later free. refl; done = still }

sent_at : (limit number k : ℕ) (x : Object) (xs : Objects) (t : Bool) → awaits_any x ≡ false → RestoresAll (as_sent limit number (next_blob k) xs) xs → RestoresAll (as_sent limit number k xs) xs
    → RestoresAll (cond t (in_chunks (chunk_size limit) (blob_id number (next_blob k)) x ∷ as_sent limit number (next_blob k) xs) (in_place x ∷ as_sent limit number k xs)) (x ∷ xs)
sent_at limit number k x xs true still long short = (restored_chunks (chunk_size limit) _ (blob_id number (next_blob k)) x still, long)
sent_at limit number k x xs false still long short = (restored_place x still, short)

pub sent_restored : (limit number k : ℕ) (xs : Objects) → list_any awaits_any xs ≡ false → RestoresAll (as_sent limit number k xs) xs
sent_restored limit number k [] free = tt
sent_restored limit number k (x ∷ xs) free =
    let p = or_parts (awaits_any x) (list_any awaits_any xs) free in
    sent_at limit number k x xs (is_long limit x.1.payload) p.0 (sent_restored limit number (next_blob k) xs p.1) (sent_restored limit number k xs p.1)

-- ---- all chunks of some objects

abbrev objects_of : List Sent → Objects
objects_of xs = map (λ (x : Sent). x.object) xs

none_more : (front : Objects) (y : Object) → list_any awaits_any front ≡ false → awaits_any y ≡ false → list_any awaits_any (front ++ y ∷ []) ≡ false
none_more [] y free done = ap (λ (t : Bool). t || false) done
none_more (x ∷ xs) y free done =
    let p = or_parts (awaits_any x) (list_any awaits_any xs) free in
    ap (λ (t : Bool). t || list_any awaits_any (xs ++ y ∷ [])) p.0 ∙ none_more xs y p.1 done

none_all : (xs : List Sent) (ys front : Objects) → RestoresAll xs ys → list_any awaits_any front ≡ false → list_any awaits_any (front ++ ys) ≡ false
none_all [] [] front r free = ap (list_any awaits_any) (append-nil front) ∙ free
none_all [] (y ∷ ys) front r free = absurd r
none_all (x ∷ xs) [] front r free = absurd r
none_all (x ∷ xs) (y ∷ ys) front r free =
    ap (list_any awaits_any) (sym (append_assoc front (y ∷ []) ys)) ∙ none_all xs ys (front ++ y ∷ []) r.1 (none_more front y free r.0.done)

-- the message that carries objects takes chunks of their data
module _ (again : Objects → Message) (takes : (xs : Objects) (c : Chunk) → joined (again xs) (m.Store (s.Chunk c)) ≡ again (fed xs c)) where
  whole_fed : (xs : Objects) (cs : List Chunk) (rest : List Message) → whole_from (again xs) (map as_message cs ++ rest) ≡ whole_from (again (fed_by xs cs)) rest
  whole_fed xs [] rest = refl
  whole_fed xs (c ∷ cs) rest = ap (λ (z : Message). whole_from z (map as_message cs ++ rest)) (takes xs c) ∙ whole_fed (fed xs c) cs rest

  all_fed : (xs : List Sent) (ys front : Objects) (rest : List Message) → RestoresAll xs ys → list_any awaits_any front ≡ false
      → whole_from (again (front ++ objects_of xs)) (chunk_messages xs ++ rest) ≡ whole_from (again (front ++ ys)) rest
  all_fed [] [] front rest r free = refl
  all_fed [] (y ∷ ys) front rest r free = absurd r
  all_fed (x ∷ xs) [] front rest r free = absurd r
  all_fed (x ∷ xs) (y ∷ ys) front rest r free =
      ap (λ (l : List Message). whole_from (again (front ++ x.object ∷ objects_of xs)) l) (append_assoc (map as_message x.chunks) (chunk_messages xs) rest)
      ∙ whole_fed (front ++ x.object ∷ objects_of xs) x.chunks (chunk_messages xs ++ rest)
      ∙ ap (λ (l : Objects). whole_from (again l) (chunk_messages xs ++ rest)) (r.0.back front (objects_of xs) free ∙ sym (append_assoc front (y ∷ []) (objects_of xs)))
      ∙ all_fed xs ys (front ++ y ∷ []) rest r.1 (none_more front y free r.0.done)
      ∙ ap (λ (l : Objects). whole_from (again l) rest) (append_assoc front (y ∷ []) ys)

  -- a message followed by its chunks
  pub with_chunks_whole : (xs : List Sent) (ys : Objects) → RestoresAll xs ys → whole (with_chunks again xs) ≡ Some (again ys)
  with_chunks_whole xs ys r = ap (λ (l : List Message). Some (whole_from (again (objects_of xs)) l)) (sym (append-nil (chunk_messages xs))) ∙ ap (λ (z : Message). Some z) (all_fed xs ys [] [] r refl)

-- ---- a message with objects in parts

both_restore : (xs : List Sent) (ys : Objects) (x : Sent) (y : Object) → RestoresAll xs ys → Restores x y → RestoresAll (xs ++ x ∷ []) (ys ++ y ∷ [])
both_restore [] [] x y r one = (one, tt)
both_restore [] (z ∷ zs) x y r one = absurd r
both_restore (w ∷ ws) [] x y r one = absurd r
both_restore (w ∷ ws) (z ∷ zs) x y r one = (r.0, both_restore ws zs x y r.1 one)

module _ (limit : ℕ) (again : Objects → Message) (takes : (xs : Objects) (c : Chunk) → joined (again xs) (m.Store (s.Chunk c)) ≡ again (fed xs c)) (grows : (a b : Objects) → joined (again a) (again b) ≡ again (a ++ b)) where
  abbrev sent_groups : List Sent → List Sent → List (List Sent)
  sent_groups = groups_from sent_amount limit

  abbrev in_parts : List (List Sent) → List Message
  in_parts gs = flat_map (with_chunks again) gs

  abbrev PartsFrom : Objects → List (List Sent) → Objects → Type 0
  PartsFrom front gs all = whole_from (again front) (in_parts gs) ≡ again (front ++ all)

  one_group : (front : Objects) (g : List Sent) (ys : Objects) (rest : List Message) → RestoresAll g ys → list_any awaits_any front ≡ false
      → whole_from (again front) (with_chunks again g ++ rest) ≡ whole_from (again (front ++ ys)) rest
  one_group front g ys rest r free = ap (λ (z : Message). whole_from z (chunk_messages g ++ rest)) (grows front (objects_of g)) ∙ all_fed again takes g ys front rest r free

  parts_from : (front : Objects) (held : List Sent) (hs : Objects) (xs : List Sent) (ys : Objects) → list_any awaits_any front ≡ false → RestoresAll held hs → RestoresAll xs ys → PartsFrom front (sent_groups held xs) (hs ++ ys)
  parts_from front held hs [] [] free h r = one_group front held hs [] h free ∙ ap (λ (l : Objects). again (front ++ l)) (sym (append-nil hs))
  parts_from front held hs [] (y ∷ ys) free h r = absurd r
  parts_from front held hs (x ∷ xs) [] free h r = absurd r
  parts_from front held hs (x ∷ xs) (y ∷ ys) free h r =
      by_room sent_amount limit (λ gs. PartsFrom front gs (hs ++ y ∷ ys)) held x xs
      (parts_from front (held ++ x ∷ []) (hs ++ y ∷ []) xs ys free (both_restore held hs x y h r.0) r.1 ∙ ap (λ (l : Objects). again (front ++ l)) (append_assoc hs (y ∷ []) ys))
      (one_group front held hs (in_parts (sent_groups (x ∷ []) xs)) h free
      ∙ parts_from (front ++ hs) (x ∷ []) (y ∷ []) xs ys (none_all held hs front h free) (r.0, tt) r.1
      ∙ ap again (append_assoc front hs (y ∷ ys)))

  first_group : (g : List Sent) (gs : List (List Sent)) → whole (in_parts (g ∷ gs)) ≡ Some (whole_from (again []) (in_parts (g ∷ gs)))
  first_group g gs = ap (λ (z : Message). Some (whole_from z (chunk_messages g ++ in_parts gs))) (sym (grows [] (objects_of g)))

  pub in_parts_whole : (xs : List Sent) (ys : Objects) → RestoresAll xs ys → whole (in_parts (groups sent_amount limit xs)) ≡ Some (again ys)
  in_parts_whole xs ys r =
      of_groups sent_amount limit (λ gs. whole (in_parts gs) ≡ Some (whole_from (again []) (in_parts gs))) first_group [] xs ∙ ap (λ (z : Message). Some z) (parts_from [] [] [] xs ys refl tt r)
