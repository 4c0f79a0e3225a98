-- What each call of a disk in memory does.
use Rattle.std.proofs.Common.{◌≡◌, ◌⊎◌, inl, inr, ◌+◌, ◌-◌, ◌≤◌, ℕ, min, List, [], ◌∷◌, ◌++◌, length, take, drop, replicate, refl, sym, ◌∙◌, ap, subst, arith, append_assoc, length-append, length-take, length-drop}
use Rattle.std.specs.Prelude.{Result, Ok, Err, OnOk, OnErr}
use Rattle.std.proofs.lemmas.List.{take_at, drop_at, drop-drop, take_all, length-replicate}
use Rattle.journal_disk.specs.Disks.{Torn, Holds, Elapses, Follows, Only}
use Rattle.journal_disk.specs.MemDisks.{put_in, content, Image, LeftSince}
use Rattle.journal_disk.specs.declared.mem_disk.DiskCall.{DiskCall}
use Rattle.journal_disk.specs.declared.mem_disk.DiskCall.TheVariants as Call
use Rattle.journal_disk.proofs.DiskLemmas.{torn_self}

module _ (old : List ℕ) (at : ℕ) (piece : List ℕ) where
  abbrev tail : List ℕ
  tail = drop (at + length piece) old

  -- what stands before the piece
  abbrev front : List ℕ
  front = take at old ++ replicate (at - length old) 0

  length-front : length front ≡ at
  length-front = omega (arith, length-append (take at old) (replicate (at - length old) 0), length-take at old, length-replicate {A = ℕ} (at - length old) 0)

  parts : put_in old at piece ≡ front ++ (piece ++ tail)
  parts = sym (append_assoc (take at old) (replicate (at - length old) 0) (piece ++ tail))

  parts_after : put_in old at piece ≡ (front ++ piece) ++ tail
  parts_after = parts ∙ sym (append_assoc front piece tail)

  put_before : take (min at (length old)) (put_in old at piece) ≡ take at old
  put_before = take_at (take at old) (replicate (at - length old) 0 ++ (piece ++ tail)) (min at (length old)) (length-take at old)

  put_there : take (length piece) (drop at (put_in old at piece)) ≡ piece
  put_there =
      ap (λ (l : List ℕ). take (length piece) (drop at l)) parts ∙ ap (λ (l : List ℕ). take (length piece) l) (drop_at front (piece ++ tail) at length-front)
      ∙ take_at piece tail (length piece) refl

  put_after : drop (at + length piece) (put_in old at piece) ≡ tail
  put_after =
      ap (λ (l : List ℕ). drop (at + length piece) l) parts_after
      ∙ drop_at (front ++ piece) tail (at + length piece) (omega (arith, length-append front piece, length-front))

  pub length-put : length (put_in old at piece) ≡ at + length piece + (length old - (at + length piece))
  length-put =
      ap length parts_after
      ∙ omega (arith, length-append (front ++ piece) tail, length-append front piece, length-front, length-drop (at + length piece) old)

  -- a write that is done
  pub put_holds : Holds at piece old (put_in old at piece)
  put_holds = record { before = put_before; there = put_there; after = put_after }

  -- it is one of those that a crash may cut short, also where more was to be written
  pub put_torn : (n : ℕ) → length piece ≤ n → Torn at n old (put_in old at piece)
  put_torn n more = record {
    before = put_before;
    after = further n more;
    no_shorter = omega (arith, length-put);
    no_longer = omega (arith, length-put, more);
  }
    where
      further : (n : ℕ) → length piece ≤ n → drop (at + n) (put_in old at piece) ≡ drop (at + n) old
      further n more =
          let k : ℕ = n - length piece in
          let on : at + n ≡ at + length piece + k = omega (arith, more) in
          ap (λ (m : ℕ). drop m (put_in old at piece)) on ∙ sym (drop-drop k (at + length piece) (put_in old at piece)) ∙ ap (λ (l : List ℕ). drop k l) put_after
          ∙ drop-drop k (at + length piece) old ∙ ap (λ (m : ℕ). drop m old) (sym on)

-- what a read gives is among what a crash may leave
pub image_held : (first : List ℕ) (calls : List DiskCall) → Image first calls (content first calls)
image_held first [] = refl
image_held first (Call.Put at piece kept ∷ before) =
    (content first before, image_held first before, put_torn (content first before) at (take kept piece) (length piece) (omega (arith, length-take kept piece)))
image_held first (Call.Synced ∷ before) = refl
image_held first (Call.Other ∷ before) = image_held first before

-- no call, or another one: a crash leaves what it might have left before
pub same_image : (first : List ℕ) (calls later : List DiskCall) → later ≡ calls → (c : List ℕ) → Image first later c → Image first calls c
same_image first calls later is c now = subst (λ (l : List DiskCall). Image first l c) is now

pub other_image : (first : List ℕ) (calls later : List DiskCall) → later ≡ Call.Other ∷ calls → (c : List ℕ) → Image first later c → Image first calls c
other_image first calls later is c now = subst (λ (l : List DiskCall). Image first l c) is now

-- after a sync
pub synced_image : (first : List ℕ) (calls later : List DiskCall) → later ≡ Call.Synced ∷ calls → (c : List ℕ) → Image first later c → Image first calls c
synced_image first calls later is c now =
    let here : c ≡ content first calls = subst (λ (l : List DiskCall). Image first l c) is now in
    subst (λ (l : List ℕ). Image first calls l) (sym here) (image_held first calls)

pub synced_only : (first held : List ℕ) (calls later : List DiskCall) → held ≡ content first calls → later ≡ Call.Synced ∷ calls → Only held (Image first later)
synced_only first held calls later same is c now =
    let here : c ≡ content first calls = subst (λ (l : List DiskCall). Image first l c) is now in
    here ∙ sym same

-- what a read gives after a call that wrote nothing
pub same_content : (first held : List ℕ) (calls later : List DiskCall) → held ≡ content first calls → later ≡ calls → held ≡ content first later
same_content first held calls later same is = same ∙ ap (content first) (sym is)

pub other_content : (first held : List ℕ) (calls later : List DiskCall) → held ≡ content first calls → later ≡ Call.Other ∷ calls → held ≡ content first later
other_content first held calls later same is = same ∙ ap (content first) (sym is)

pub synced_content : (first held : List ℕ) (calls later : List DiskCall) → held ≡ content first calls → later ≡ Call.Synced ∷ calls → held ≡ content first later
synced_content first held calls later same is = same ∙ ap (content first) (sym is)

-- after a write
pub put_content : (first held now : List ℕ) (calls later : List DiskCall) (at kept : ℕ) (piece : List ℕ) → held ≡ content first calls → later ≡ Call.Put at piece kept ∷ calls
    → now ≡ put_in held at (take kept piece) → now ≡ content first later
put_content first held now calls later at kept piece same is put =
    put ∙ ap (λ (l : List ℕ). put_in l at (take kept piece)) same ∙ ap (content first) (sym is)

pub put_image : (first : List ℕ) (calls later : List DiskCall) (at kept : ℕ) (piece : List ℕ) → later ≡ Call.Put at piece kept ∷ calls
    → Follows (Torn at (length piece)) (Image first calls) (Image first later)
put_image first calls later at kept piece is c now = subst (λ (l : List DiskCall). Image first l c) is now

pub same_follows : (first : List ℕ) (calls later : List DiskCall) (at n : ℕ) → later ≡ calls → Follows (Torn at n) (Image first calls) (Image first later)
same_follows first calls later at n is c now = (c, same_image first calls later is c now, torn_self at n c)

pub put_done : (held now : List ℕ) (at kept : ℕ) (piece : List ℕ) → kept ≡ length piece → now ≡ put_in held at (take kept piece) → Holds at piece held now
put_done held now at kept piece all put =
    let whole : take kept piece ≡ piece = take_all kept piece (omega (arith, all)) in
    subst (λ (l : List ℕ). Holds at piece held l) (sym (put ∙ ap (put_in held at) whole)) (put_holds held at piece)

pub put_failed : (held now : List ℕ) (at kept : ℕ) (piece : List ℕ) → now ≡ put_in held at (take kept piece) → Torn at (length piece) held now
put_failed held now at kept piece put =
    subst (λ (l : List ℕ). Torn at (length piece) held l) (sym put) (put_torn held at (take kept piece) (length piece) (omega (arith, length-take kept piece)))

pub same_torn : (held now : List ℕ) (at n : ℕ) → now ≡ held → Torn at n held now
same_torn held now at n is = subst (λ (l : List ℕ). Torn at n held l) (sym is) (torn_self at n held)

-- no call
pub still : (first : List ℕ) (calls later : List DiskCall) → later ≡ calls → Elapses (length calls) (length later) (LeftSince first calls) (LeftSince first later) (Image first later)
still first calls later is =
    subst (λ (l : List DiskCall). Elapses (length calls) (length l) (LeftSince first calls) (LeftSince first l) (Image first l)) (sym is)
    (record { later = omega arith; nothing_else = λ t c le left. inl left; keeps = λ t c le left. left })

earlier : (first : List ℕ) (k : DiskCall) (calls : List DiskCall) (t : ℕ) (c : List ℕ) → LeftSince first (k ∷ calls) t c → LeftSince first calls t c ⊎ Image first (k ∷ calls) c
earlier first k calls t c (inl now) = inr now
earlier first k calls t c (inr past) = inl past.1

-- one call more
pub one_more : (first : List ℕ) (k : DiskCall) (calls later : List DiskCall) → later ≡ k ∷ calls → Elapses (length calls) (length later) (LeftSince first calls) (LeftSince first later) (Image first later)
one_more first k calls later is =
    subst (λ (l : List DiskCall). Elapses (length calls) (length l) (LeftSince first calls) (LeftSince first l) (Image first l)) (sym is)
    (record { later = omega arith; nothing_else = λ t c le left. earlier first k calls t c left; keeps = λ t c le left. inr (le, left) })

-- a write that was noted with what it left, or not done at all where memory ran out
module _ {T E : Type 0} (first held now : List ℕ) (calls later : List DiskCall) (at kept : ℕ) (piece : List ℕ) where
  pub noted_torn : (r : Result T E) → OnOk r (now ≡ put_in held at (take kept piece)) → OnErr r (now ≡ held) → Torn at (length piece) held now
  noted_torn (Ok x) done same = put_failed held now at kept piece done
  noted_torn (Err e) done same = same_torn held now at (length piece) same

  pub noted_image : (r : Result T E) → OnOk r (later ≡ Call.Put at piece kept ∷ calls) → OnErr r (later ≡ calls) → Follows (Torn at (length piece)) (Image first calls) (Image first later)
  noted_image (Ok x) done same = put_image first calls later at kept piece done
  noted_image (Err e) done same = same_follows first calls later at (length piece) same
