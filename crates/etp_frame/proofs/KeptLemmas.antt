-- What a joiner keeps after a piece.
use Rattle.std.proofs.Common.{◌≡◌, ◌∙◌, ◌++◌, ◌+◌, ◌-◌, ◌<◌, ◌≤◌, ℕ, ℤ, Bool, true, false, cond, not, ◌&&◌, List, [], length, Option, Some, None, nat_lt, int_eq, refl, sym, ap, subst, arith}
use Rattle.std.proofs.lemmas.Bool.{false≢true}
use Rattle.std.proofs.lemmas.Bool.Decides.{nat_tests}
use Rattle.std.proofs.lemmas.List.{length-append}
use Rattle.std.proofs.lemmas.Slice.Eq.{bytes_eq-Decides}
use Rattle.std.specs.Cmp.{int_eq_equiv}
use Rattle.std.specs.Cmp.Lexicographic.{slice_cmp}
use Rattle.std.specs.List.{list_any}
use Rattle.std.specs.List.Sorted.{IsStrictlySortedBy}
use Rattle.std.specs.Map.{keys_of}
use Rattle.std.specs.Ordering.{nat_cmp}
use Rattle.std.specs.Str.{bytes_eq}
use Rattle.msg_store.specs.declared.store_messages.Chunk.{Chunk}
use Rattle.etp_frame.specs.declared.awaiting.Carrier.{Carrier}
use Rattle.etp_frame.specs.declared.joining.Joined.TheVariants as j
use Rattle.etp_frame.specs.declared.joining.JoinError.{JoinError}
use Rattle.etp_frame.specs.declared.joining.JoinError.TheVariants as e
use Rattle.etp_frame.specs.Joining.{Objects, Awaited, awaits, awaits_any, is_double, data_size, data_limit, fed, is_other, carried, grows, chunk_refusal, with_piece}
use Rattle.etp_frame.specs.Kept.{piece, last_piece, gathered, awaiting, FindsEach, IsBegun, IsKept}
use Rattle.etp_frame.proofs.PieceLemmas.{fed_again, awaits_fed, awaits_any_fed, keys_fed, size_fed, awaiting_fed, none_awaits, one_awaits, any_if_one, single_fed}
use Rattle.etp_frame.proofs.PlaceLemmas.{finds_each_fed}

-- ---- the objects as they are seen

pub awaits_gathered : (begun : Option (List ℕ)) (pieces : List ℕ) (q : List ℕ) (xs : Objects) → list_any (awaits q) (gathered begun pieces xs) ≡ list_any (awaits q) xs
awaits_gathered None pieces q xs = refl
awaits_gathered (Some id) pieces q xs = awaits_fed q id pieces xs

pub size_gathered : (begun : Option (List ℕ)) (pieces : List ℕ) (xs : Objects) → IsBegun begun pieces xs → data_size (gathered begun pieces xs) ≡ data_size xs + length pieces
size_gathered None pieces xs h = let e : length pieces ≡ 0 = ap length h in omega (arith, e)
size_gathered (Some id) pieces xs h = size_fed (piece id pieces) xs h

-- the pieces so far and one more
abbrev pub with_pieces : List ℕ → Chunk → Chunk
with_pieces pieces c = record { blob_id = c.blob_id; payload = pieces ++ c.payload; last = c.last }

same_begun : (b id : List ℕ) → is_other (Some b) id ≡ false → b ≡ id
same_begun b id h = (bytes_eq-Decides b id).0 (double_not (bytes_eq b id) h)
  where
    double_not : (t : Bool) → not t ≡ false → t ≡ true
    double_not true h = refl
    double_not false h = absurd (false≢true (sym h))

pub gathered_more : (begun : Option (List ℕ)) (pieces : List ℕ) (xs : Objects) (c : Chunk) → IsBegun begun pieces xs → is_other begun c.blob_id ≡ false → fed (gathered begun pieces xs) c ≡ fed xs (with_pieces pieces c)
gathered_more None pieces xs c h other = ap (λ (front : List ℕ). fed xs (record { blob_id = c.blob_id; payload = front ++ c.payload; last = c.last })) (sym h)
gathered_more (Some b) pieces xs c h other =
    ap (λ (i : List ℕ). fed (fed xs (piece i pieces)) c) (same_begun b c.blob_id other) ∙ fed_again c.blob_id pieces c.payload c.last xs

-- ---- what is kept

module _ (places : List (List ℕ × ℕ)) (left size : ℕ) (begun : Option (List ℕ)) (pieces : List ℕ) (xs : Objects) (c : Chunk) (kept : IsKept places left size begun pieces xs)
    (awaited : list_any (awaits c.blob_id) (gathered begun pieces xs) ≡ true) (small : data_size (gathered begun pieces xs) + length c.payload ≤ data_limit) where
  pub here : list_any (awaits c.blob_id) xs ≡ true
  here = sym (awaits_gathered begun pieces c.blob_id xs) ∙ awaited

  pub fits : size + length c.payload ≤ data_limit
  fits = omega (arith, kept.size_is, size_gathered begun pieces xs kept.is_begun, small)

  pub kept_more : (all : List ℕ) → all ≡ pieces ++ c.payload → IsKept places left (size + length c.payload) (Some c.blob_id) all xs
  kept_more all is = record {
    finds = kept.finds;
    single = kept.single;
    left_is = kept.left_is;
    size_is = omega (arith, kept.size_is, length-append pieces c.payload, ap length is);
    small = fits;
    is_begun = here;
    sorted = kept.sorted;
  }

  pub sorted_last : (all : List ℕ) (ys : Objects) → ys ≡ fed xs (last_piece c.blob_id all) → IsStrictlySortedBy (slice_cmp nat_cmp) (keys_of ys)
  sorted_last all ys is =
      subst (IsStrictlySortedBy (slice_cmp nat_cmp)) (sym (ap keys_of is ∙ keys_fed (last_piece c.blob_id all) xs)) kept.sorted

  pub left_last : (all : List ℕ) (ys : Objects) → ys ≡ fed xs (last_piece c.blob_id all) → left ≡ awaiting ys + 1
  left_last all ys is = kept.left_is ∙ awaiting_fed c.blob_id all xs here ∙ ap (λ (l : Objects). awaiting l + 1) (sym is)

  pub kept_last : (all : List ℕ) (ys : Objects) → all ≡ pieces ++ c.payload → ys ≡ fed xs (last_piece c.blob_id all) → (after : ℕ) → after ≡ left - 1 → (empty : List ℕ) → empty ≡ [] → IsKept places after (size + length c.payload) None empty ys
  kept_last all ys is made after rest empty none = record {
    finds = subst (FindsEach places) (sym made) (finds_each_fed (last_piece c.blob_id all) places xs kept.finds);
    single = ap (list_any is_double) made ∙ single_fed c.blob_id all xs kept.single;
    left_is = omega (arith, rest, left_last all ys made);
    size_is =
        omega (arith, kept.size_is, ap data_size made, size_fed (last_piece c.blob_id all) xs here, ap length is, length-append pieces c.payload, ap length none);
    small = fits;
    is_begun = none;
    sorted = sorted_last all ys made;
  }

-- ---- what is answered

grows_more : (w : Awaited) → list_any awaits_any w.objects ≡ true → (j.More, Some w) ≡ grows w
grows_more w h = sym (ap (λ (t : Bool). cond t (j.More, Some w) (j.Whole (carried w.carrier w.objects), None)) h)

grows_whole : (w : Awaited) → list_any awaits_any w.objects ≡ false → (j.Whole (carried w.carrier w.objects), None) ≡ grows w
grows_whole w h = sym (ap (λ (t : Bool). cond t (j.More, Some w) (j.Whole (carried w.carrier w.objects), None)) h)

-- one that awaits a blob awaits more
pub more_awaited : (correlation : ℤ) (carrier : Carrier) (xs : Objects) → 0 < awaiting xs → (j.More, Some (record { correlation = correlation; carrier = carrier; objects = xs; begun = None })) ≡ grows (record { correlation = correlation; carrier = carrier; objects = xs; begun = None })
more_awaited correlation carrier xs h = grows_more (record { correlation = correlation; carrier = carrier; objects = xs; begun = None }) (one_awaits xs h)

-- the same if correlation and objects are reached another way
pub opened_more : (same correlation : ℤ) (carrier : Carrier) (ys xs : Objects) → same ≡ correlation → ys ≡ xs → 0 < awaiting xs
    → (j.More, Some (record { correlation = same; carrier = carrier; objects = ys; begun = None })) ≡ grows (record { correlation = correlation; carrier = carrier; objects = xs; begun = None })
opened_more same correlation carrier ys xs is are h =
    (λ i. let w : Awaited = record { correlation = is i; carrier = carrier; objects = are i; begun = None } in (j.More, Some w)) ∙ more_awaited correlation carrier xs h

pub whole_at_once : (correlation : ℤ) (carrier : Carrier) (xs : Objects) → awaiting xs ≡ 0 → (j.Whole (carried carrier xs), None) ≡ grows (record { correlation = correlation; carrier = carrier; objects = xs; begun = None })
whole_at_once correlation carrier xs h = grows_whole (record { correlation = correlation; carrier = carrier; objects = xs; begun = None }) (none_awaits xs h)

module _ (correlation : ℤ) (carrier : Carrier) (begun : Option (List ℕ)) (pieces : List ℕ) (xs : Objects) (c : Chunk) (is_begun : IsBegun begun pieces xs) (same : is_other begun c.blob_id ≡ false) where
  abbrev pub old : Awaited
  old = record { correlation = correlation; carrier = carrier; objects = gathered begun pieces xs; begun = begun }

  -- what is seen after the piece
  seen : (ys : Objects) (now : Option (List ℕ)) → fed xs (with_pieces pieces c) ≡ ys → cond c.last None (Some c.blob_id) ≡ now → with_piece old c ≡ record { correlation = correlation; carrier = carrier; objects = ys; begun = now }
  seen ys now objects begun' =
      let all = gathered_more begun pieces xs c is_begun same ∙ objects in
      λ i. record { correlation = correlation; carrier = carrier; objects = all i; begun = begun' i }

  pub answers_more : (all : List ℕ) → all ≡ pieces ++ c.payload → c.last ≡ false → list_any (awaits c.blob_id) xs ≡ true
      → (j.More, Some (record { correlation = correlation; carrier = carrier; objects = fed xs (piece c.blob_id all); begun = Some c.blob_id })) ≡ grows (with_piece old c)
  answers_more all is last here =
      let ys = fed xs (piece c.blob_id all) in
      let objects : fed xs (with_pieces pieces c) ≡ ys = λ i. fed xs (record { blob_id = c.blob_id; payload = sym is i; last = last i }) in
      let now : cond c.last None (Some c.blob_id) ≡ Some c.blob_id = ap (λ (t : Bool). cond t None (Some c.blob_id)) last in
      let any : list_any awaits_any ys ≡ true = awaits_any_fed c.blob_id all xs ∙ any_if_one c.blob_id xs here in
      grows_more (record { correlation = correlation; carrier = carrier; objects = ys; begun = Some c.blob_id }) any ∙ ap grows (sym (seen ys (Some c.blob_id) objects now))

  last_objects : (all : List ℕ) (ys : Objects) → all ≡ pieces ++ c.payload → ys ≡ fed xs (last_piece c.blob_id all) → c.last ≡ true → with_piece old c ≡ record { correlation = correlation; carrier = carrier; objects = ys; begun = None }
  last_objects all ys is made last =
      seen ys None ((λ i. fed xs (record { blob_id = c.blob_id; payload = sym is i; last = last i })) ∙ sym made) (ap (λ (t : Bool). cond t None (Some c.blob_id)) last)

  pub answers_whole : (all : List ℕ) (ys : Objects) → all ≡ pieces ++ c.payload → ys ≡ fed xs (last_piece c.blob_id all) → c.last ≡ true → awaiting ys ≡ 0 → (j.Whole (carried carrier ys), None) ≡ grows (with_piece old c)
  answers_whole all ys is made last none = whole_at_once correlation carrier ys none ∙ ap grows (sym (last_objects all ys is made last))

  pub answers_next : (all : List ℕ) (ys : Objects) → all ≡ pieces ++ c.payload → ys ≡ fed xs (last_piece c.blob_id all) → c.last ≡ true → 0 < awaiting ys
      → (j.More, Some (record { correlation = correlation; carrier = carrier; objects = ys; begun = None })) ≡ grows (with_piece old c)
  answers_next all ys is made last some = more_awaited correlation carrier ys some ∙ ap grows (sym (last_objects all ys is made last))

-- ---- why a chunk is refused

module _ (w : Awaited) (correlation : ℤ) (c : Chunk) where
  abbrev refusing : Bool → Bool → Bool → Option JoinError
  refusing wrong other long = cond wrong (Some e.WrongBlob) (cond other (Some e.Interleaved) (cond long (Some e.TooLong) None))

  both_false : (a b : Bool) → b ≡ false → not (a && b) ≡ true
  both_false true b h = ap not h
  both_false false b h = refl

  both_true : (a b : Bool) → a ≡ true → b ≡ true → not (a && b) ≡ false
  both_true a b g h = ap (λ (t : Bool). not (t && b)) g ∙ ap not h

  abbrev wrong : Bool
  wrong = not (int_eq correlation w.correlation && list_any (awaits c.blob_id) w.objects)

  abbrev long : Bool
  long = nat_lt data_limit (data_size w.objects + length c.payload)

  pub refused_blob : list_any (awaits c.blob_id) w.objects ≡ false → Some e.WrongBlob ≡ chunk_refusal w correlation c
  refused_blob h = sym (ap (λ (t : Bool). refusing t (is_other w.begun c.blob_id) long) (both_false (int_eq correlation w.correlation) (list_any (awaits c.blob_id) w.objects) h))

  module _ (same : correlation ≡ w.correlation) (awaited : list_any (awaits c.blob_id) w.objects ≡ true) where
    known : wrong ≡ false
    known = both_true (int_eq correlation w.correlation) (list_any (awaits c.blob_id) w.objects) (ap (int_eq correlation) (sym same) ∙ int_eq_equiv.refl correlation) awaited

    pub refused_other : is_other w.begun c.blob_id ≡ true → Some e.Interleaved ≡ chunk_refusal w correlation c
    refused_other h = sym (ap (λ (t : Bool). refusing t (is_other w.begun c.blob_id) long) known ∙ ap (λ (t : Bool). refusing false t long) h)

    pub refused_long : is_other w.begun c.blob_id ≡ false → data_limit < data_size w.objects + length c.payload → Some e.TooLong ≡ chunk_refusal w correlation c
    refused_long h past =
        let t : long ≡ true = grind (arith, nat_tests) in
        sym (ap (λ (t : Bool). refusing t (is_other w.begun c.blob_id) long) known ∙ ap (λ (t : Bool). refusing false t long) h ∙ ap (refusing false false) t)

    pub refused_not : is_other w.begun c.blob_id ≡ false → data_size w.objects + length c.payload ≤ data_limit → None ≡ chunk_refusal w correlation c
    refused_not h within =
        let t : long ≡ false = grind (arith, nat_tests) in
        sym (ap (λ (t : Bool). refusing t (is_other w.begun c.blob_id) long) known ∙ ap (λ (t : Bool). refusing false t long) h ∙ ap (refusing false false) t)
