-- Regions row by row: those of an array's rows, one after the other.
use Rattle.std.proofs.Common.{ℕ, zero, suc, ◌+◌, ◌*◌, ◌-◌, ◌^◌, ◌≤◌, ◌<◌, nat_lt, Bool, true, false, cond, List, [], ◌∷◌, ◌++◌, length, take, drop, set, map, Some, None, slice_get, ◌≡◌, refl, sym, ap, ◌∙◌, arith, append_assoc, length-append, length-take, length-drop, length-set}
use Rattle.std.proofs.lemmas.List.{take_at, drop_at, take-append-drop, drop-drop, nil_from_length, set-append_left, set-append_right, length-map}
use Rattle.std.proofs.Math.Nat.{mul-le-mul_right}
use Rattle.std.specs.List.{cons_option, flat_map, range_with_len, AllByRecursion}
use Rattle.std.proofs.lemmas.List.Elements.{filter_map-append}
use Rattle.etp_values.proofs.EachLemmas.{all-append}
use Rattle.array_store.specs.Shape.{volume, place}
use Rattle.array_store.specs.Region.{indexes, elements_at, written_at, sliced, patched}
use Rattle.array_store.proofs.RowLemmas.{rows_read, rows_written, rows_back}

-- ---- lists of indexes

pub written_at-none : {X : Type 0} (ds : List ℕ) (xs : List X) (js : List (List ℕ)) → written_at ds xs js [] ≡ xs
written_at-none ds xs [] = refl
written_at-none ds xs (j ∷ js) = refl

written_at-append : {X : Type 0} (ds : List ℕ) (xs : List X) (is js : List (List ℕ)) (ys : List X)
    → written_at ds xs (is ++ js) ys ≡ written_at ds (written_at ds xs is ys) js (drop (length is) ys)
written_at-append ds xs [] js ys = refl
written_at-append ds xs (i ∷ is) js [] = sym (written_at-none ds xs js)
written_at-append ds xs (i ∷ is) js (y ∷ ys) = written_at-append ds (set xs (place ds i) y) is js ys

-- only as many values are written as there are indexes
pub written_at-more : {X : Type 0} (ds : List ℕ) (xs : List X) (js : List (List ℕ)) (ys zs : List X) → length js ≡ length ys → written_at ds xs js (ys ++ zs) ≡ written_at ds xs js ys
written_at-more ds xs [] [] zs e = refl
written_at-more ds xs [] (y ∷ ys) zs e = absurd (omega arith)
written_at-more ds xs (j ∷ js) [] zs e = absurd (omega arith)
written_at-more ds xs (j ∷ js) (y ∷ ys) zs e = written_at-more ds (set xs (place ds j) y) js ys zs (omega arith)

pub length-written_at : {X : Type 0} (ds : List ℕ) (xs : List X) (js : List (List ℕ)) (ys : List X) → length (written_at ds xs js ys) ≡ length xs
length-written_at ds xs [] ys = refl
length-written_at ds xs (j ∷ js) [] = refl
length-written_at ds xs (j ∷ js) (y ∷ ys) = length-written_at ds (set xs (place ds j) y) js ys ∙ length-set xs (place ds j) y

-- ---- a region is within an array

-- in each dimension the start plus the count does not exceed the end
abbrev pub Within : List ℕ → List ℕ → List ℕ → Type 0
Within [] [] [] = Unit {0}
Within (d ∷ ds) (s ∷ ss) (c ∷ cs) = (s + c ≤ d) × Within ds ss cs
Within ds ss cs = ⊥

all-map : {X Y : Type 0} (P : X → Type 0) (Q : Y → Type 0) (f : X → Y) → ((x : X) → P x → Q (f x)) → (xs : List X) → AllByRecursion P xs → AllByRecursion Q (map f xs)
all-map P Q f h [] p = tt
all-map P Q f h (x ∷ xs) p = (h x p.0, all-map P Q f h xs p.1)

place_in_row : (s d w p : ℕ) → s < d → p < w → s * w + p < d * w
place_in_row s d w p h k = grind arith

inside_rows : (ds : List ℕ) (d : ℕ) (js : List (List ℕ)) → AllByRecursion (λ j. place ds j < volume ds) js → (c s : ℕ) → s + c ≤ d
    → AllByRecursion (λ j. place (d ∷ ds) j < volume (d ∷ ds)) (flat_map (λ i. map (λ is. i ∷ is) js) (range_with_len s c))
inside_rows ds d js all zero s h = tt
inside_rows ds d js all (suc c) s h =
    all-append _ (map (λ is. s ∷ is) js) _
    (all-map (λ j. place ds j < volume ds) (λ j. place (d ∷ ds) j < volume (d ∷ ds)) (λ is. s ∷ is) (λ j k. place_in_row s d (volume ds) (place ds j) (omega arith) k) js all)
    (inside_rows ds d js all c (s + 1) (omega arith))

pub inside : (ds ss cs : List ℕ) → Within ds ss cs → AllByRecursion (λ j. place ds j < volume ds) (indexes ss cs)
inside [] [] [] h = (omega arith, tt)
inside [] [] (c ∷ cs) h = absurd h
inside [] (s ∷ ss) cs h = absurd (elim cs as (λ v. Within [] (s ∷ ss) v → ⊥) [ [] ↦ λ e. e | c ∷ v ↦ λ e. e ] h)
inside (d ∷ ds) [] cs h = absurd (elim cs as (λ v. Within (d ∷ ds) [] v → ⊥) [ [] ↦ λ e. e | c ∷ v ↦ λ e. e ] h)
inside (d ∷ ds) (s ∷ ss) [] h = absurd h
inside (d ∷ ds) (s ∷ ss) (c ∷ cs) h = inside_rows ds d (indexes ss cs) (inside ds ss cs h.1) c s h.0

rows_counted : (js : List (List ℕ)) (c s : ℕ) → length (flat_map (λ i. map (λ is. i ∷ is) js) (range_with_len s c)) ≡ c * length js
rows_counted js zero s = omega arith
rows_counted js (suc c) s =
    length-append (map (λ is. s ∷ is) js) (flat_map (λ i. map (λ is. i ∷ is) js) (range_with_len (s + 1) c))
    ∙ omega (arith, length-map js (λ is. s ∷ is), rows_counted js c (s + 1))

-- a region has as many indexes as its counts make
pub length-indexes : (ds ss cs : List ℕ) → Within ds ss cs → length (indexes ss cs) ≡ volume cs
length-indexes [] [] [] h = refl
length-indexes [] [] (c ∷ cs) h = absurd h
length-indexes [] (s ∷ ss) [] h = absurd h
length-indexes [] (s ∷ ss) (c ∷ cs) h = absurd h
length-indexes (d ∷ ds) [] [] h = absurd h
length-indexes (d ∷ ds) [] (c ∷ cs) h = absurd h
length-indexes (d ∷ ds) (s ∷ ss) [] h = absurd h
length-indexes (d ∷ ds) (s ∷ ss) (c ∷ cs) h = rows_counted (indexes ss cs) c s ∙ ap (λ n. c * n) (length-indexes ds ss cs h.1)

-- ---- one row

get-drop : {X : Type 0} (xs : List X) (n k : ℕ) → slice_get (drop n xs) k ≡ slice_get xs (n + k)
get-drop xs zero k = ap (slice_get xs) (omega arith)
get-drop [] (suc n) k = refl
get-drop (x ∷ xs) (suc n) k = get-drop xs n k ∙ sym (ap (slice_get (x ∷ xs)) (let e : suc n + k ≡ suc (n + k) = omega arith in e))

get-take : {X : Type 0} (xs : List X) (n k : ℕ) → k < n → slice_get (take n xs) k ≡ slice_get xs k
get-take xs zero k h = absurd (omega arith)
get-take [] (suc n) k h = refl
get-take (x ∷ xs) (suc n) zero h = refl
get-take (x ∷ xs) (suc n) (suc k) h = get-take xs n k (omega arith)

row_read : {X : Type 0} (d s : ℕ) (ds : List ℕ) (xs : List X) (js : List (List ℕ)) → AllByRecursion (λ j. place ds j < volume ds) js
    → elements_at (d ∷ ds) xs (map (λ is. s ∷ is) js) ≡ elements_at ds (take (volume ds) (drop (s * volume ds) xs)) js
row_read d s ds xs [] all = refl
row_read d s ds xs (j ∷ js) all =
    let w = volume ds in
    let one : slice_get xs (s * w + place ds j) ≡ slice_get (take w (drop (s * w) xs)) (place ds j) = sym (get-take (drop (s * w) xs) w (place ds j) all.0 ∙ get-drop xs (s * w) (place ds j)) in
    λ i. cons_option (one i) (row_read d s ds xs js all.1 i)

set_in_row : {X : Type 0} (fs rs cs : List X) (at p : ℕ) (y : X) → length fs ≡ at → p < length rs → set (fs ++ (rs ++ cs)) (at + p) y ≡ fs ++ (set rs p y ++ cs)
set_in_row fs rs cs at p y e h =
    let turn : (at + p) - at ≡ p = omega arith in
    set-append_right fs (rs ++ cs) at (at + p) y e (omega arith)
    ∙ ap (λ n. fs ++ set (rs ++ cs) n y) turn
    ∙ ap (λ l. fs ++ l) (set-append_left rs cs p y h)

row_written : {X : Type 0} (d s : ℕ) (ds : List ℕ) (fs rs cs : List X) (js : List (List ℕ)) (ys : List X)
    → length fs ≡ s * volume ds → length rs ≡ volume ds → AllByRecursion (λ j. place ds j < volume ds) js
    → written_at (d ∷ ds) (fs ++ (rs ++ cs)) (map (λ is. s ∷ is) js) ys ≡ fs ++ (written_at ds rs js ys ++ cs)
row_written d s ds fs rs cs [] ys e l all = refl
row_written d s ds fs rs cs (j ∷ js) [] e l all = refl
row_written d s ds fs rs cs (j ∷ js) (y ∷ ys) e l all =
    let inside_row : place ds j < length rs = omega (arith, all.0) in
    ap (λ xs. written_at (d ∷ ds) xs (map (λ is. s ∷ is) js) ys) (set_in_row fs rs cs (s * volume ds) (place ds j) y e inside_row)
    ∙ row_written d s ds fs (set rs (place ds j) y) cs js ys e (length-set rs (place ds j) y ∙ l) all.1

-- ---- the rows of a region

module _ {X : Type 0} (d : ℕ) (ds ss cs : List ℕ) (within : Within ds ss cs) where
  next_row : (s : ℕ) (xs : List X) → drop ((s + 1) * volume ds) xs ≡ drop (volume ds) (drop (s * volume ds) xs)
  next_row s xs = let e : (s + 1) * volume ds ≡ s * volume ds + (volume ds) = omega arith in ap (λ n. drop n xs) e ∙ sym (drop-drop (volume ds) (s * volume ds) xs)

  pub read_by_rows : (c s : ℕ) (xs : List X)
      → elements_at (d ∷ ds) xs (indexes (s ∷ ss) (c ∷ cs)) ≡ rows_read (λ r. elements_at ds r (indexes ss cs)) (volume ds) c (drop (s * volume ds) xs)
  read_by_rows zero s xs = refl
  read_by_rows (suc c) s xs =
      filter_map-append _ (map (λ is. s ∷ is) (indexes ss cs)) (indexes ((s + 1) ∷ ss) (c ∷ cs))
      ∙ (λ i. row_read d s ds xs (indexes ss cs) (inside ds ss cs within) i ++ (read_by_rows c (s + 1) xs ∙ ap (rows_read (λ r. elements_at ds r (indexes ss cs)) (volume ds) c) (next_row s xs)) i)

  pub written_by_rows : (c s : ℕ) (xs ys : List X) → (s + c) * volume ds ≤ length xs
      → written_at (d ∷ ds) xs (indexes (s ∷ ss) (c ∷ cs)) ys ≡ take (s * volume ds) xs ++ rows_written (λ r vs. written_at ds r (indexes ss cs) vs) (volume ds) (volume cs) c (drop (s * volume ds) xs) ys
  written_by_rows zero s xs ys h = sym (take-append-drop (s * volume ds) xs)
  written_by_rows (suc c) s xs ys h =
      let js = indexes ss cs in
      let fs = take (s * volume ds) xs in
      let tail = drop (s * volume ds) xs in
      let rs = take (volume ds) tail in
      let more = drop (volume ds) tail in
      let parts : xs ≡ fs ++ (rs ++ more) = sym (ap (λ l. fs ++ l) (take-append-drop (volume ds) tail) ∙ take-append-drop (s * volume ds) xs) in
      let room : (s + suc c) * volume ds ≡ s * volume ds + (volume ds + c * volume ds) = omega arith in
      let at : length fs ≡ s * volume ds = length-take (s * volume ds) xs ∙ omega (arith, room) in
      let long : length rs ≡ volume ds = length-take (volume ds) tail ∙ omega (arith, room, length-drop (s * volume ds) xs) in
      let done = written_at ds rs js ys in
      let done_long : length done ≡ volume ds = length-written_at ds rs js ys ∙ long in
      let first : written_at (d ∷ ds) xs (map (λ is. s ∷ is) js) ys ≡ fs ++ (done ++ more) =
      ap (λ l. written_at (d ∷ ds) l (map (λ is. s ∷ is) js) ys) parts ∙ row_written d s ds fs rs more js ys at long (inside ds ss cs within) in
      let count : length (map (λ is. s ∷ is) js) ≡ volume cs = length-map js (λ is. s ∷ is) ∙ length-indexes ds ss cs within in
      let state = fs ++ (done ++ more) in
      let state_long : length state ≡ length xs = length-append fs (done ++ more) ∙ omega (arith, length-append done more, at, done_long, room, length-drop (volume ds) tail, length-drop (s * volume ds) xs) in
      let next : (s + 1 + c) * volume ds ≤ length state = omega (arith, room, state_long) in
      let split : state ≡ (fs ++ done) ++ more = sym (append_assoc fs done more) in
      let front_long : length (fs ++ done) ≡ (s + 1) * volume ds = length-append fs done ∙ omega (arith, at, done_long) in
      let front : take ((s + 1) * volume ds) state ≡ fs ++ done = ap (take ((s + 1) * volume ds)) split ∙ take_at (fs ++ done) more ((s + 1) * volume ds) front_long in
      let back : drop ((s + 1) * volume ds) state ≡ more = ap (drop ((s + 1) * volume ds)) split ∙ drop_at (fs ++ done) more ((s + 1) * volume ds) front_long in
      written_at-append (d ∷ ds) xs (map (λ is. s ∷ is) js) (indexes ((s + 1) ∷ ss) (c ∷ cs)) ys
      ∙ (λ i. written_at (d ∷ ds) (first i) (indexes ((s + 1) ∷ ss) (c ∷ cs)) (drop (count i) ys))
      ∙ written_by_rows c (s + 1) state (drop (volume cs) ys) next
      ∙ (λ i. front i ++ rows_written (λ r vs. written_at ds r js vs) (volume ds) (volume cs) c (back i) (drop (volume cs) ys))
      ∙ append_assoc fs done _

-- ---- what is promised of a region

pub length-patched : {X : Type 0} (ds ss cs : List ℕ) (xs ys : List X) → length (patched ds ss cs xs ys) ≡ length xs
unfolding patched
length-patched ds ss cs xs ys = length-written_at ds xs (indexes ss cs) ys

pub sliced-rows : {X : Type 0} (d s c : ℕ) (ds ss cs : List ℕ) (xs : List X) → Within ds ss cs
    → sliced (d ∷ ds) (s ∷ ss) (c ∷ cs) xs ≡ rows_read (sliced ds ss cs) (volume ds) c (drop (s * volume ds) xs)
unfolding sliced
sliced-rows d s c ds ss cs xs h = read_by_rows d ds ss cs h c s xs

pub patched-rows : {X : Type 0} (d s c : ℕ) (ds ss cs : List ℕ) (xs ys : List X) → Within ds ss cs → (s + c) * volume ds ≤ length xs
    → patched (d ∷ ds) (s ∷ ss) (c ∷ cs) xs ys ≡ take (s * volume ds) xs ++ rows_written (patched ds ss cs) (volume ds) (volume cs) c (drop (s * volume ds) xs) ys
unfolding patched
patched-rows d s c ds ss cs xs ys h room = written_by_rows d ds ss cs h c s xs ys room

-- values beyond those that the region has are not written
pub patched-more : {X : Type 0} (ds ss cs : List ℕ) (xs ys zs : List X) → Within ds ss cs → length ys ≡ volume cs → patched ds ss cs xs (ys ++ zs) ≡ patched ds ss cs xs ys
unfolding patched
patched-more ds ss cs xs ys zs h e = written_at-more ds xs (indexes ss cs) ys zs (length-indexes ds ss cs h ∙ sym e)

-- ---- how many elements a region has

got-length : {X : Type 0} (xs rest : List X) (k : ℕ) → k < length xs → length (cons_option (slice_get xs k) rest) ≡ suc (length rest)
got-length [] rest k h = absurd (omega arith)
got-length (x ∷ xs) rest zero h = refl
got-length (x ∷ xs) rest (suc k) h = got-length xs rest k (omega arith)

length-elements_at : {X : Type 0} (ds : List ℕ) (xs : List X) (n : ℕ) (js : List (List ℕ)) → length xs ≡ n → AllByRecursion (λ j. place ds j < n) js → length (elements_at ds xs js) ≡ length js
length-elements_at ds xs n [] e all = refl
length-elements_at ds xs n (j ∷ js) e all =
    got-length xs (elements_at ds xs js) (place ds j) (omega (arith, all.0, e)) ∙ ap suc (length-elements_at ds xs n js e all.1)

pub length-sliced : {X : Type 0} (ds ss cs : List ℕ) (xs : List X) → Within ds ss cs → length xs ≡ volume ds → length (sliced ds ss cs xs) ≡ volume cs
unfolding sliced
length-sliced ds ss cs xs h e = length-elements_at ds xs (volume ds) (indexes ss cs) e (inside ds ss cs h) ∙ length-indexes ds ss cs h

-- ---- a region without elements

-- a number that fits in 64 bits is returned as it is
pub told-number : (n m : ℕ) → cond (nat_lt n (2 ^ 64)) (Some n) None ≡ Some m → n ≡ m
told-number n m h = by (nat_lt n (2 ^ 64)) h
  where
    by : (b : Bool) → cond b (Some n) None ≡ Some m → n ≡ m
    by true e = cc
    by false e = absurd cc

pub sliced-empty : {X : Type 0} (ds ss cs : List ℕ) (xs : List X) → Within ds ss cs → length xs ≡ volume ds → volume cs ≡ 0 → sliced ds ss cs xs ≡ []
sliced-empty ds ss cs xs h full none = nil_from_length (sliced ds ss cs xs) (length-sliced ds ss cs xs h full ∙ none)

pub patched-empty : {X : Type 0} (ds ss cs : List ℕ) (xs ys : List X) → length ys ≡ 0 → patched ds ss cs xs ys ≡ xs
unfolding patched
patched-empty ds ss cs xs ys none = ap (written_at ds xs (indexes ss cs)) (nil_from_length ys none) ∙ written_at-none ds xs (indexes ss cs)

-- ---- what a patch took out, put in again, leaves the array as it was

patched-back-one : {X : Type 0} (xs ys : List X) → length xs ≡ 1 → patched [] [] [] (patched [] [] [] xs ys) (sliced [] [] [] xs) ≡ xs
unfolding patched sliced
patched-back-one [] ys e = absurd (omega arith)
patched-back-one (x ∷ []) [] e = refl
patched-back-one (x ∷ []) (y ∷ ys) e = refl
patched-back-one (x ∷ z ∷ xs) ys e = absurd (omega arith)

pub patched-back : {X : Type 0} (ds ss cs : List ℕ) (xs ys : List X) → Within ds ss cs → length xs ≡ volume ds → patched ds ss cs (patched ds ss cs xs ys) (sliced ds ss cs xs) ≡ xs
patched-back [] [] [] xs ys h e = patched-back-one xs ys e
patched-back [] [] (c ∷ cs) xs ys h e = absurd h
patched-back [] (s ∷ ss) [] xs ys h e = absurd h
patched-back [] (s ∷ ss) (c ∷ cs) xs ys h e = absurd h
patched-back (d ∷ ds) [] [] xs ys h e = absurd h
patched-back (d ∷ ds) [] (c ∷ cs) xs ys h e = absurd h
patched-back (d ∷ ds) (s ∷ ss) [] xs ys h e = absurd h
patched-back {X} (d ∷ ds) (s ∷ ss) (c ∷ cs) xs ys h e =
    let w = volume ds in
    let p = volume cs in
    let f : List X → List X = sliced ds ss cs in
    let g : List X → List X → List X = patched ds ss cs in
    let at = s * w in
    let bound : (s + c) * w ≤ d * w = mul-le-mul_right w h.0 in
    let room : (s + c) * w ≤ length xs = omega (arith, bound, e) in
    let parts : (s + c) * w ≡ s * w + c * w = omega arith in
    let left : c * w ≤ length (drop at xs) = omega (arith, length-drop at xs, room, parts) in
    let front = take at xs in
    let front_long : length front ≡ at = length-take at xs ∙ omega (arith, room, parts) in
    let rows = rows_written g w p c (drop at xs) ys in
    let new = patched (d ∷ ds) (s ∷ ss) (c ∷ cs) xs ys in
    let new_is : new ≡ front ++ rows = patched-rows d s c ds ss cs xs ys h.1 room in
    let new_room : (s + c) * w ≤ length new = omega (arith, room, length-patched (d ∷ ds) (s ∷ ss) (c ∷ cs) xs ys) in
    let new_front : take at new ≡ front = ap (take at) new_is ∙ take_at front rows at front_long in
    let new_rest : drop at new ≡ rows = ap (drop at) new_is ∙ drop_at front rows at front_long in
    let kept : (r vs : List X) → length r ≡ w → length (g r vs) ≡ w = λ r vs k. length-patched ds ss cs r vs ∙ k in
    let short : (r : List X) → length r ≡ w → length (f r) ≡ p = λ r k. length-sliced ds ss cs r h.1 k in
    let back : (r vs zs : List X) → length r ≡ w → g (g r vs) (f r ++ zs) ≡ r =
    λ r vs zs k. patched-more ds ss cs (g r vs) (f r) zs h.1 (short r k) ∙ patched-back ds ss cs r vs h.1 k in
    patched-rows d s c ds ss cs new (sliced (d ∷ ds) (s ∷ ss) (c ∷ cs) xs) h.1 new_room
    ∙ (λ j. new_front j ++ rows_written g w p c (new_rest j) (sliced-rows d s c ds ss cs xs h.1 j))
    ∙ ap (λ l. front ++ l) (rows_back f g w p kept short back c (drop at xs) ys left)
    ∙ take-append-drop at xs
