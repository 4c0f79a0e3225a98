-- The indexes of the objects that await blobs.
use Rattle.std.proofs.Common.{◌≡◌, ◌∙◌, ◌++◌, ◌+◌, ◌-◌, ◌<◌, ◌≤◌, ℕ, zero, suc, Bool, true, false, cond, ◌||◌, List, [], ◌∷◌, length, get_or, drop, drop-cons, slice_set, Option, Some, None, is_some, is_none, refl, sym, ap, subst, arith}
use Rattle.std.proofs.lemmas.Bool.{false≢true, or_parts, or_right}
use Rattle.std.proofs.lemmas.Map.Text.{is_eq-slice_cmp}
use Rattle.std.proofs.lemmas.Slice.Eq.{bytes_eq-Decides}
use Rattle.std.specs.BTreeMap.{is_at}
use Rattle.std.specs.Cmp.Lexicographic.{slice_cmp}
use Rattle.std.specs.List.{list_any}
use Rattle.std.specs.Ordering.{nat_cmp}
use Rattle.std.specs.Str.{bytes_eq}
use Rattle.msg_store.specs.declared.store_messages.Chunk.{Chunk}
use Rattle.etp_frame.specs.Joining.{Objects, is_blob, awaits, is_double, is_awaited, shares_blob, fed}
use Rattle.etp_frame.specs.Kept.{last_piece, place_from, any_but, awaits_at, filled_at, Finds, FindsEach, AddsPlace, place_at}
use Rattle.etp_frame.proofs.PieceLemmas.{Object, fed_here, fed_later, length_fed, no_data}

-- ---- one index

or_false : (a b : Bool) → b ≡ false → (a || b) ≡ a
or_false true b h = refl
or_false false b h = h

-- only the object at the index can await the blob
pub any_at_place : (k : ℕ) (id : List ℕ) (xs : Objects) → any_but k id xs ≡ false → list_any (awaits id) xs ≡ awaits_at k id xs
any_at_place k id [] h = refl
any_at_place zero id (x ∷ xs) h = or_false (awaits id x) (list_any (awaits id) xs) h
any_at_place (suc k) id (x ∷ xs) h =
    let p = or_parts (awaits id x) (any_but k id xs) h in
    ap (λ (t : Bool). t || list_any (awaits id) xs) p.0 ∙ any_at_place k id xs p.1

-- the last piece goes to the object at the index
pub fed_filled : (k : ℕ) (id bytes : List ℕ) (xs : Objects) → any_but k id xs ≡ false → awaits_at k id xs ≡ true → list_any is_double xs ≡ false → fed xs (last_piece id bytes) ≡ filled_at k bytes xs
fed_filled k id bytes [] h at none = refl
fed_filled zero id bytes (x ∷ xs) h at none =
    let p = or_parts (is_double x) (list_any is_double xs) none in
    fed_here (last_piece id bytes) x xs at
    ∙ ap (λ (front : List ℕ). (x.0, record x.1 { blob_id = None; payload = front ++ bytes }) ∷ xs) (no_data x.1.blob_id id x.1.payload at p.0)
fed_filled (suc k) id bytes (x ∷ xs) h at none =
    let p = or_parts (awaits id x) (any_but k id xs) h in
    let d = or_parts (is_double x) (list_any is_double xs) none in
    fed_later (last_piece id bytes) x xs p.0 ∙ ap (λ (l : Objects). x ∷ l) (fed_filled k id bytes xs p.1 at d.1)

-- ---- a table of indexes remains valid after a piece

grown_less : (last : Bool) (own : Option (List ℕ)) (q : List ℕ) → is_blob own q ≡ false → is_blob (cond last None own) q ≡ false
grown_less true own q h = refl
grown_less false own q h = h

none_at : (c : Chunk) (q : List ℕ) (x : Object) (xs : Objects) (t : Bool) → awaits c.blob_id x ≡ t → list_any (awaits q) (x ∷ xs) ≡ false
    → (list_any (awaits q) xs ≡ false → list_any (awaits q) (fed xs c) ≡ false) → list_any (awaits q) (fed (x ∷ xs) c) ≡ false
none_at c q x xs true h none more =
    let p = or_parts (awaits q x) (list_any (awaits q) xs) none in
    ap (list_any (awaits q)) (fed_here c x xs h) ∙ ap (λ (t : Bool). t || list_any (awaits q) xs) (grown_less c.last x.1.blob_id q p.0) ∙ p.1
none_at c q x xs false h none more =
    let p = or_parts (awaits q x) (list_any (awaits q) xs) none in
    ap (list_any (awaits q)) (fed_later c x xs h) ∙ ap (λ (t : Bool). t || list_any (awaits q) (fed xs c)) p.0 ∙ more p.1

none_fed : (c : Chunk) (q : List ℕ) (xs : Objects) → list_any (awaits q) xs ≡ false → list_any (awaits q) (fed xs c) ≡ false
none_fed c q [] h = refl
none_fed c q (x ∷ xs) h = none_at c q x xs (awaits c.blob_id x) refl h (none_fed c q xs)

but_first : (c : Chunk) (q : List ℕ) (x : Object) (xs : Objects) (t : Bool) → awaits c.blob_id x ≡ t → list_any (awaits q) xs ≡ false → any_but 0 q (fed (x ∷ xs) c) ≡ false
but_first c q x xs true h none = ap (any_but 0 q) (fed_here c x xs h) ∙ none
but_first c q x xs false h none = ap (any_but 0 q) (fed_later c x xs h) ∙ none_fed c q xs none

but_later : (c : Chunk) (k : ℕ) (q : List ℕ) (x : Object) (xs : Objects) (t : Bool) → awaits c.blob_id x ≡ t → any_but (suc k) q (x ∷ xs) ≡ false → (any_but k q xs ≡ false → any_but k q (fed xs c) ≡ false) → any_but (suc k) q (fed (x ∷ xs) c) ≡ false
but_later c k q x xs true h none more =
    let p = or_parts (awaits q x) (any_but k q xs) none in
    ap (any_but (suc k) q) (fed_here c x xs h) ∙ ap (λ (t : Bool). t || any_but k q xs) (grown_less c.last x.1.blob_id q p.0) ∙ p.1
but_later c k q x xs false h none more =
    let p = or_parts (awaits q x) (any_but k q xs) none in
    ap (any_but (suc k) q) (fed_later c x xs h) ∙ ap (λ (t : Bool). t || any_but k q (fed xs c)) p.0 ∙ more p.1

but_fed : (c : Chunk) (k : ℕ) (q : List ℕ) (xs : Objects) → any_but k q xs ≡ false → any_but k q (fed xs c) ≡ false
but_fed c k q [] h = refl
but_fed c zero q (x ∷ xs) h = but_first c q x xs (awaits c.blob_id x) refl h
but_fed c (suc k) q (x ∷ xs) h = but_later c k q x xs (awaits c.blob_id x) refl h (but_fed c k q xs)

finds_fed : (c : Chunk) (found : Option ℕ) (q : List ℕ) (xs : Objects) → Finds found q xs → Finds found q (fed xs c)
finds_fed c None q xs h = none_fed c q xs h
finds_fed c (Some k) q xs h = (omega (arith, length_fed c xs, h.0), but_fed c k q xs h.1)

pub finds_each_fed : (c : Chunk) (entries : List (List ℕ × ℕ)) (xs : Objects) → FindsEach entries xs → FindsEach entries (fed xs c)
finds_each_fed c entries xs h q = finds_fed c (place_at entries q) q xs (h q)

-- ---- how a table of indexes is built

some_place : (k : ℕ) (id : List ℕ) (xs : Objects) → is_some (place_from k id xs) ≡ list_any (awaits id) xs
some_place k id [] = refl
some_place k id (x ∷ xs) = at (awaits id x) (place_from (suc k) id xs) (list_any (awaits id) xs) (some_place (suc k) id xs)
  where
    at : (t : Bool) (later : Option ℕ) (any : Bool) → is_some later ≡ any → is_some (cond t (Some k) later) ≡ (t || any)
    at true later any h = refl
    at false later any h = h

-- what the table finds is the index of the first object that awaits the blob, and no two await the same
pub record Places (k : ℕ) (entries : List (List ℕ × ℕ)) (xs : Objects) : Type 0 where
  pub exact : (q : List ℕ) → place_at entries q ≡ place_from k q xs
  pub apart : shares_blob xs ≡ false

free_if : (found : Option ℕ) → is_none found ≡ true → is_some found ≡ false
free_if None h = refl
free_if (Some k) h = absurd (false≢true h)

held_if : (found : Option ℕ) → is_none found ≡ false → is_some found ≡ true
held_if None h = absurd (false≢true (sym h))
held_if (Some k) h = refl

pub places_more : (added : Bool) (own : Option (List ℕ)) (k : ℕ) (x : Object) (xs : Objects) (old with_it : List (List ℕ × ℕ)) → own ≡ x.1.blob_id → Places (suc k) old xs → AddsPlace added own k old with_it → added ≡ true → Places k with_it (x ∷ xs)
places_more added None k x xs old with_it is p a new = record {
  exact = λ q. ap (λ (l : List (List ℕ × ℕ)). place_at l q) a.1 ∙ p.exact q ∙ ap (λ (o : Option (List ℕ)). cond (is_blob o q) (Some k) (place_from (suc k) q xs)) is;
  apart = sym (ap (λ (o : Option (List ℕ)). is_awaited o xs || shares_blob xs) is) ∙ p.apart;
}
places_more added (Some id) k x xs old with_it is p a new = record {
  exact = λ q. a.1 q ∙ ap (cond (bytes_eq id q) (Some k)) (p.exact q) ∙ ap (λ (o : Option (List ℕ)). cond (is_blob o q) (Some k) (place_from (suc k) q xs)) is;
  apart =
      let free : list_any (awaits id) xs ≡ false = sym (some_place (suc k) id xs) ∙ ap is_some (sym (p.exact id)) ∙ free_if (place_at old id) (sym a.0 ∙ new) in
      sym (ap (λ (o : Option (List ℕ)). is_awaited o xs || shares_blob xs) is) ∙ ap (λ (t : Bool). t || shares_blob xs) free ∙ p.apart;
}

pub place_shared : (added : Bool) (own : Option (List ℕ)) (k : ℕ) (x : Object) (xs : Objects) (old with_it : List (List ℕ × ℕ)) → own ≡ x.1.blob_id → Places (suc k) old xs → AddsPlace added own k old with_it → added ≡ false → shares_blob (x ∷ xs) ≡ true
place_shared added None k x xs old with_it is p a new = absurd (false≢true (sym new ∙ a.0))
place_shared added (Some id) k x xs old with_it is p a new =
    let held : list_any (awaits id) xs ≡ true = sym (some_place (suc k) id xs) ∙ ap is_some (sym (p.exact id)) ∙ held_if (place_at old id) (sym a.0 ∙ new) in
    sym (ap (λ (o : Option (List ℕ)). is_awaited o xs || shares_blob xs) is) ∙ ap (λ (t : Bool). t || shares_blob xs) held

pub shares_drop : (k : ℕ) (xs : Objects) → shares_blob (drop k xs) ≡ true → shares_blob xs ≡ true
shares_drop zero xs h = h
shares_drop (suc k) [] h = h
shares_drop (suc k) (x ∷ xs) h = or_right (is_awaited x.1.blob_id xs) (shares_blob xs) (shares_drop k xs h)

-- ---- if no two objects await one blob, an index leaves no other object

same_blob : (own : Option (List ℕ)) (id : List ℕ) (xs : Objects) → is_blob own id ≡ true → is_awaited own xs ≡ false → list_any (awaits id) xs ≡ false
same_blob None id xs h none = absurd (false≢true h)
same_blob (Some own) id xs h none = subst (λ (i : List ℕ). list_any (awaits i) xs ≡ false) ((bytes_eq-Decides own id).0 h) none

-- the index of an object in a list whose first index is k
abbrev Behind : ℕ → Option ℕ → List ℕ → Objects → Type 0
Behind k None id xs = list_any (awaits id) xs ≡ false
Behind k (Some n) id xs = (d : ℕ) × (n ≡ k + d) × (d < length xs) × (any_but d id xs ≡ false)

behind_at : (k : ℕ) (id : List ℕ) (x : Object) (xs : Objects) (t : Bool) (found : Option ℕ) → awaits id x ≡ t → shares_blob (x ∷ xs) ≡ false → Behind (suc k) found id xs → Behind k (cond t (Some k) found) id (x ∷ xs)
behind_at k id x xs true found h none more =
    let p = or_parts (is_awaited x.1.blob_id xs) (shares_blob xs) none in
    (0, omega arith, omega arith, same_blob x.1.blob_id id xs h p.0)
behind_at k id x xs false None h none more = ap (λ (t : Bool). t || list_any (awaits id) xs) h ∙ more
behind_at k id x xs false (Some n) h none more =
    (suc more.0, omega (arith, more.1), omega (arith, more.2), ap (λ (t : Bool). t || any_but more.0 id xs) h ∙ more.3)

behind : (k : ℕ) (id : List ℕ) (xs : Objects) → shares_blob xs ≡ false → Behind k (place_from k id xs) id xs
behind k id [] none = refl
behind k id (x ∷ xs) none =
    let p = or_parts (is_awaited x.1.blob_id xs) (shares_blob xs) none in
    behind_at k id x xs (awaits id x) (place_from (suc k) id xs) refl none (behind (suc k) id xs p.1)

found_first : (found : Option ℕ) (id : List ℕ) (xs : Objects) → Behind 0 found id xs → Finds found id xs
found_first None id xs h = h
found_first (Some n) id xs h = let e : h.0 ≡ n = omega (arith, h.1) in subst (λ (d : ℕ). (d < length xs) × (any_but d id xs ≡ false)) e (h.2, h.3)

pub finds_each : (entries : List (List ℕ × ℕ)) (xs : Objects) → Places 0 entries xs → FindsEach entries xs
finds_each entries xs p q = subst (λ (found : Option ℕ). Finds found q xs) (sym (p.exact q)) (found_first (place_from 0 q xs) q xs (behind 0 q xs p.apart))

-- what an insertion does to what is found
pub place_added : (id q : List ℕ) (k : ℕ) (old : Option ℕ) → cond (is_at (slice_cmp nat_cmp id) q) (Some k) old ≡ cond (bytes_eq id q) (Some k) old
place_added id q k old = ap (λ (t : Bool). cond t (Some k) old) (is_eq-slice_cmp id q)

-- what a table finds after an insertion
pub adds_place : (added : Bool) (own : Option (List ℕ)) (id : List ℕ) (k : ℕ) (old with_it : List (List ℕ × ℕ)) → own ≡ Some id → added ≡ is_none (place_at old id)
    → ((q : List ℕ) → place_at with_it q ≡ cond (is_at (slice_cmp nat_cmp id) q) (Some k) (place_at old q)) → AddsPlace added own k old with_it
adds_place added own id k old with_it is new each = subst (λ (o : Option (List ℕ)). AddsPlace added o k old with_it) (sym is) (new, λ q. each q ∙ place_added id q k (place_at old q))

-- ---- reading and writing at an index

pub awaits_read : (k : ℕ) (id : List ℕ) (xs : Objects) (d : Object) → k < length xs → awaits_at k id xs ≡ awaits id (get_or xs k d)
awaits_read k id [] d h = absurd (omega arith)
awaits_read zero id (x ∷ xs) d h = refl
awaits_read (suc k) id (x ∷ xs) d h = awaits_read k id xs d (omega arith)

pub set_filled : (k : ℕ) (bytes : List ℕ) (xs : Objects) (x : Object) → k < length xs → x ≡ get_or xs k x → slice_set xs k (x.0, record x.1 { blob_id = None; payload = bytes }) ≡ filled_at k bytes xs
set_filled k bytes [] x h is = absurd (omega arith)
set_filled zero bytes (y ∷ ys) x h is = ap (λ (z : Object). (z.0, record z.1 { blob_id = None; payload = bytes }) ∷ ys) is
set_filled (suc k) bytes (y ∷ ys) x h is = ap (λ (l : Objects). y ∷ l) (set_filled k bytes ys x (omega arith) is)

-- what was found serves a look-up
pub found_none : (entries : List (List ℕ × ℕ)) (id : List ℕ) (xs : Objects) → FindsEach entries xs → place_at entries id ≡ None → list_any (awaits id) xs ≡ false
found_none entries id xs h is = subst (λ (f : Option ℕ). Finds f id xs) is (h id)

pub found_place : (entries : List (List ℕ × ℕ)) (id : List ℕ) (xs : Objects) (k : ℕ) → FindsEach entries xs → place_at entries id ≡ Some k → (k < length xs) × (any_but k id xs ≡ false)
found_place entries id xs k h is = subst (λ (f : Option ℕ). Finds f id xs) is (h id)

pub fed_none : (c : Chunk) (xs : Objects) → list_any (awaits c.blob_id) xs ≡ false → fed xs c ≡ xs
fed_none c [] h = refl
fed_none c (x ∷ xs) h =
    let p = or_parts (awaits c.blob_id x) (list_any (awaits c.blob_id) xs) h in
    fed_later c x xs p.0 ∙ ap (λ (l : Objects). x ∷ l) (fed_none c xs p.1)

-- ---- a table is built from the last object on

module _ (xs : Objects) (x : Object) (added : Bool) (old with_it : List (List ℕ × ℕ)) where
  at_suc : (k : ℕ) → k < length xs → x ≡ get_or xs k x → drop k xs ≡ x ∷ drop (suc k) xs
  at_suc k within is = drop-cons xs k x within ∙ ap (λ (y : Object). y ∷ drop (suc k) xs) (sym is)

  step_suc : (k : ℕ) → k < length xs → x ≡ get_or xs k x → Places (suc k) old (drop (suc k) xs) → AddsPlace added x.1.blob_id k old with_it → added ≡ true → Places k with_it (drop k xs)
  step_suc k within is p a new = subst (Places k with_it) (sym (at_suc k within is)) (places_more added x.1.blob_id k x (drop (suc k) xs) old with_it refl p a new)

  clash_suc : (k : ℕ) → k < length xs → x ≡ get_or xs k x → Places (suc k) old (drop (suc k) xs) → AddsPlace added x.1.blob_id k old with_it → added ≡ false → shares_blob xs ≡ true
  clash_suc k within is p a new =
      shares_drop k xs (ap shares_blob (at_suc k within is) ∙ place_shared added x.1.blob_id k x (drop (suc k) xs) old with_it refl p a new)

before : (k : ℕ) → suc k - 1 ≡ k
before k = omega arith

pub place_step : (xs : Objects) (n : ℕ) (x : Object) (added : Bool) (old with_it : List (List ℕ × ℕ)) → 0 < n → n ≤ length xs → x ≡ get_or xs (n - 1) x → Places n old (drop n xs) → AddsPlace added x.1.blob_id (n - 1) old with_it → added ≡ true → Places (n - 1) with_it (drop (n - 1) xs)
place_step xs zero x added old with_it more within is p a new = absurd (omega arith)
place_step xs (suc k) x added old with_it more within is p a new =
    let e = before k in
    subst (λ (m : ℕ). Places m with_it (drop m xs)) (sym e)
    (step_suc xs x added old with_it k (omega arith) (subst (λ (m : ℕ). x ≡ get_or xs m x) e is) p (subst (λ (m : ℕ). AddsPlace added x.1.blob_id m old with_it) e a) new)

pub place_clash : (xs : Objects) (n : ℕ) (x : Object) (added : Bool) (old with_it : List (List ℕ × ℕ)) → 0 < n → n ≤ length xs → x ≡ get_or xs (n - 1) x → Places n old (drop n xs) → AddsPlace added x.1.blob_id (n - 1) old with_it → added ≡ false → shares_blob xs ≡ true
place_clash xs zero x added old with_it more within is p a new = absurd (omega arith)
place_clash xs (suc k) x added old with_it more within is p a new =
    let e = before k in
    clash_suc xs x added old with_it k (omega arith) (subst (λ (m : ℕ). x ≡ get_or xs m x) e is) p (subst (λ (m : ℕ). AddsPlace added x.1.blob_id m old with_it) e a) new
