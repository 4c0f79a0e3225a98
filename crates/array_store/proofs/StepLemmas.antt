-- The steps of reading and writing a region, one dimension after the other.
use Rattle.std.proofs.Common.{ℕ, suc, ◌+◌, ◌*◌, ◌-◌, ◌/◌, ◌≤◌, ◌<◌, ℤ, pos, negsuc, true, List, [], ◌∷◌, ◌++◌, length, take, drop, ◌≡◌, refl, sym, ap, ◌∙◌, subst, arith, append_assoc, length-append, length-take, length-drop}
use Rattle.std.proofs.Math.Nat.{mul-div_cancel_left, mul-le-mul_right}
use Rattle.std.proofs.lemmas.Bool.{false≢true, and_parts}
use Rattle.std.proofs.lemmas.Bool.Decides.{nat_tests}
use Rattle.std.proofs.lemmas.List.{take_all, take_at, drop_at, take-append-drop, append-nil, drop-drop, nil_from_length, length-map}
use Rattle.array_store.specs.Shape.{size, sizes, volume}
use Rattle.array_store.specs.Region.{is_span, is_region, IsOuter, sliced, patched}
use Rattle.array_store.proofs.RowLemmas.{rows_read, rows_written, rows_read-one, rows_written-one}
use Rattle.array_store.proofs.RegionLemmas.{Within, sliced-rows, patched-rows}

-- ---- what the test of a region says

pub span-sizes : (d s c : ℤ) → is_span d s c ≡ true → size s + size c ≤ size d
span-sizes (pos d) (pos s) (pos c) h = grind (arith, nat_tests)
span-sizes (pos d) (pos s) (negsuc c) h = absurd (false≢true h)
span-sizes (pos d) (negsuc s) c h = absurd (false≢true h)
span-sizes (negsuc d) s c h = absurd (false≢true h)

pub region-within : (ds ss cs : List ℤ) → is_region ds ss cs ≡ true → Within (sizes ds) (sizes ss) (sizes cs)
region-within [] [] [] h = tt
region-within [] [] (c ∷ cs) h = absurd (false≢true h)
region-within [] (s ∷ ss) cs h = absurd (false≢true h)
region-within (d ∷ ds) [] cs h = absurd (false≢true h)
region-within (d ∷ ds) (s ∷ ss) [] h = absurd (false≢true h)
region-within (d ∷ ds) (s ∷ ss) (c ∷ cs) h =
    let parts = and_parts (is_span d s c) (is_region ds ss cs) h in
    (span-sizes d s c parts.0, region-within ds ss cs parts.1)

-- ---- the last dimension: one run

sliced-one : {X : Type 0} (r : List X) → length r ≡ 1 → sliced [] [] [] r ≡ r
unfolding sliced
sliced-one [] e = absurd (omega arith)
sliced-one (x ∷ []) e = refl
sliced-one (x ∷ y ∷ r) e = absurd (omega arith)

patched-one : {X : Type 0} (r : List X) (y : X) (ys : List X) → length r ≡ 1 → patched [] [] [] r (y ∷ ys) ≡ y ∷ []
unfolding patched
patched-one [] y ys e = absurd (omega arith)
patched-one (x ∷ []) y ys e = refl
patched-one (x ∷ z ∷ r) y ys e = absurd (omega arith)

within-nil : (si ci : List ℕ) → Within [] si ci → (si ≡ []) × (ci ≡ [])
within-nil [] [] h = (refl, refl)
within-nil [] (c ∷ ci) h = absurd h
within-nil (s ∷ si) [] h = absurd h
within-nil (s ∷ si) (c ∷ ci) h = absurd h

module _ {ds ss cs : List ℕ} {d s c : ℕ} {di si ci : List ℕ} (outer : IsOuter ds ss cs d s c di si ci) where
  pub volume-outer : volume ds ≡ d * volume di
  volume-outer = ap volume outer.dims

  pub volume-counts : volume cs ≡ c * volume ci
  volume-counts = ap volume outer.counts

  -- the run is within the elements
  pub run-fits : (n : ℕ) → length di ≡ 0 → n ≡ volume ds → s + c ≤ n
  run-fits n last e =
      let one : volume di ≡ 1 = ap volume (nil_from_length di last) in
      let whole : n ≡ d * 1 = e ∙ volume-outer ∙ ap (λ v. d * v) one in
      omega (arith, whole, outer.within)

  -- the values are those of the run
  pub run-counts : length di ≡ 0 → Within di si ci → volume cs ≡ c
  run-counts last h =
      let none = nil_from_length di last in
      let rest = within-nil si ci (subst (λ v. Within v si ci) none h) in
      let whole : volume cs ≡ c * 1 = volume-counts ∙ ap (λ v. c * volume v) rest.1 in
      omega (arith, whole)

  -- how long a row is
  pub row-width : (n : ℕ) → n ≡ volume ds → 0 < c → n / d ≡ volume di
  row-width n e some =
      let wide : 0 < d = omega (arith, outer.within) in
      ap (λ v. v / d) (e ∙ volume-outer) ∙ mul-div_cancel_left (volume di) wide

  pub row-part : (n : ℕ) → n ≡ volume cs → 0 < c → n / c ≡ volume ci
  row-part n e some = ap (λ v. v / c) (e ∙ volume-counts) ∙ mul-div_cancel_left (volume ci) some

  -- each row is within the elements
  pub row-fits : (n w k : ℕ) → n ≡ volume ds → w ≡ volume di → k < c → (s + k) * w + w ≤ n
  row-fits n w k e wide below =
      let bound : (s + k + 1) * w ≤ d * w = mul-le-mul_right w (let h : s + k + 1 ≤ d = omega (arith, outer.within) in h) in
      let whole : n ≡ d * w = e ∙ volume-outer ∙ ap (λ v. d * v) (sym wide) in
      omega (arith, bound, whole)

  pub part-fits : (n p k : ℕ) → n ≡ volume cs → p ≡ volume ci → k < c → k * p + p ≤ n
  part-fits n p k e wide below =
      let bound : (k + 1) * p ≤ c * p = mul-le-mul_right p (let h : k + 1 ≤ c = omega arith in h) in
      let whole : n ≡ c * p = e ∙ volume-counts ∙ ap (λ v. c * v) (sym wide) in
      omega (arith, bound, whole)

  -- the values end with the last part
  pub parts-end : (n p k : ℕ) → n ≡ volume cs → p ≡ volume ci → c ≤ k → n ≤ k * p
  parts-end n p k e wide past =
      let bound : c * p ≤ k * p = mul-le-mul_right p past in
      let whole : n ≡ c * p = e ∙ volume-counts ∙ ap (λ v. c * v) (sym wide) in
      omega (arith, bound, whole)

  pub no-values : c ≡ 0 → volume cs ≡ 0
  no-values none = let whole : volume cs ≡ 0 * volume ci = volume-counts ∙ ap (λ n. n * volume ci) none in omega (arith, whole)

  module _ {X : Type 0} (within : Within di si ci) where
    sliced-outer : (xs : List X) → sliced ds ss cs xs ≡ rows_read (sliced di si ci) (volume di) c (drop (s * volume di) xs)
    sliced-outer xs = (λ j. sliced (outer.dims j) (outer.starts j) (outer.counts j) xs) ∙ sliced-rows d s c di si ci xs within

    patched-outer : (xs ys : List X) → length xs ≡ volume ds
        → patched ds ss cs xs ys ≡ take (s * volume di) xs ++ rows_written (patched di si ci) (volume di) (volume ci) c (drop (s * volume di) xs) ys
    patched-outer xs ys full =
        let bound : (s + c) * volume di ≤ d * volume di = mul-le-mul_right (volume di) outer.within in
        let room : (s + c) * volume di ≤ length xs = omega (arith, bound, full, volume-outer) in
        (λ j. patched (outer.dims j) (outer.starts j) (outer.counts j) xs ys) ∙ patched-rows d s c di si ci xs ys within room

    -- no rows, no elements
    pub sliced-none : (xs : List X) → c ≡ 0 → sliced ds ss cs xs ≡ []
    sliced-none xs none = sliced-outer xs ∙ ap (λ n. rows_read (sliced di si ci) (volume di) n (drop (s * volume di) xs)) none

    pub patched-none : (xs ys : List X) → length xs ≡ volume ds → c ≡ 0 → patched ds ss cs xs ys ≡ xs
    patched-none xs ys full none =
        patched-outer xs ys full
        ∙ ap (λ n. take (s * volume di) xs ++ rows_written (patched di si ci) (volume di) (volume ci) n (drop (s * volume di) xs) ys) none
        ∙ take-append-drop (s * volume di) xs

    -- a run is read and written as a whole
    pub sliced-run : (xs : List X) → length di ≡ 0 → length xs ≡ volume ds → sliced ds ss cs xs ≡ take c (drop s xs)
    sliced-run xs last full =
        let none = nil_from_length di last in
        let rest = within-nil si ci (subst (λ v. Within v si ci) none within) in
        let fits = run-fits (length xs) last full in
        let start : s * 1 ≡ s = omega arith in
        let room : c ≤ length (drop s xs) = omega (arith, length-drop s xs, fits) in
        sliced-outer xs
        ∙ (λ j. rows_read (sliced (none j) (rest.0 j) (rest.1 j)) (volume (none j)) c (drop (s * volume (none j)) xs))
        ∙ ap (λ n. rows_read (sliced [] [] []) 1 c (drop n xs)) start
        ∙ rows_read-one (sliced [] [] []) sliced-one c (drop s xs) room

    pub patched-run : (xs ys : List X) → length di ≡ 0 → length xs ≡ volume ds → length ys ≡ volume cs → patched ds ss cs xs ys ≡ take s xs ++ (ys ++ drop c (drop s xs))
    patched-run xs ys last full all =
        let none = nil_from_length di last in
        let rest = within-nil si ci (subst (λ v. Within v si ci) none within) in
        let fits = run-fits (length xs) last full in
        let start : s * 1 ≡ s = omega arith in
        let room : c ≤ length (drop s xs) = omega (arith, length-drop s xs, fits) in
        patched-outer xs ys full
        ∙ (λ j. take (s * volume (none j)) xs ++ rows_written (patched (none j) (rest.0 j) (rest.1 j)) (volume (none j)) (volume (rest.1 j)) c (drop (s * volume (none j)) xs) ys)
        ∙ ap (λ n. take n xs ++ rows_written (patched [] [] []) 1 1 c (drop n xs) ys) start
        ∙ ap (λ l. take s xs ++ l) (rows_written-one (patched [] [] []) patched-one c (drop s xs) ys room (all ∙ run-counts last within))

    -- at first all rows are left
    pub read-first : (out xs : List X) (w n : ℕ) → w ≡ volume di → n ≡ c → out ++ rows_read (sliced di si ci) w n (drop ((s + 0) * w) xs) ≡ out ++ sliced ds ss cs xs
    read-first out xs w n wide all =
        let start : s + 0 ≡ s = omega arith in
        (λ j. out ++ rows_read (sliced di si ci) (wide j) (all j) (drop (start j * wide j) xs)) ∙ ap (λ l. out ++ l) (sym (sliced-outer xs))

-- one row is read
pub read-next : {X : Type 0} (f : List X → List X) (w c k s : ℕ) (out now xs whole : List X) → k < c
    → out ++ rows_read f w (c - k) (drop ((s + k) * w) xs) ≡ whole
    → now ≡ out ++ f (take w (drop ((s + k) * w) xs))
    → now ++ rows_read f w (c - (k + 1)) (drop ((s + (k + 1)) * w) xs) ≡ whole
read-next f w c k s out now xs whole below before row =
    let left : c - k ≡ suc (c - (k + 1)) = omega arith in
    let at : (s + (k + 1)) * w ≡ (s + k) * w + w = omega arith in
    let more = rows_read f w (c - (k + 1)) (drop w (drop ((s + k) * w) xs)) in
    (λ j. row j ++ rows_read f w (c - (k + 1)) ((ap (λ n. drop n xs) at ∙ sym (drop-drop w ((s + k) * w) xs)) j))
    ∙ append_assoc out (f (take w (drop ((s + k) * w) xs))) more
    ∙ ap (λ n. out ++ rows_read f w n (drop ((s + k) * w) xs)) (sym left)
    ∙ before

-- ---- parts

pub sizes-empty : (zs : List ℤ) → length zs ≡ 0 → length (sizes zs) ≡ 0
sizes-empty zs e = length-map zs size ∙ e

pub part-of : {X : Type 0} (n w : ℕ) (xs : List X) → take ((n + w) - n) (drop n xs) ≡ take w (drop n xs)
part-of n w xs = let e : (n + w) - n ≡ w = omega arith in ap (λ m. take m (drop n xs)) e

-- ---- an exchange under way: from `at` and `from` on nothing is done yet, `left` rows are to come, and `wanted` and `taken` is what will be
pub record Swapping {X : Type 0} (f : List X → List X) (g : List X → List X → List X) (w p at from left : ℕ) (items values now_items now_values wanted taken : List X) : Type 0 where
  pub rest : drop at now_items ≡ drop at items
  pub next : drop from now_values ≡ drop from values
  pub long : length now_items ≡ length items
  pub as_long : length now_values ≡ length values
  pub done : take at now_items ++ rows_written g w p left (drop at items) (drop from values) ≡ wanted
  pub held : take from now_values ++ rows_read f w left (drop at items) ≡ taken

module _ {ds ss cs : List ℕ} {d s c : ℕ} {di si ci : List ℕ} (outer : IsOuter ds ss cs d s c di si ci) where
  module _ {X : Type 0} (within : Within di si ci) where
    pub swap-first : (xs ys : List X) (w p k : ℕ) → w ≡ volume di → p ≡ volume ci → k ≡ c → length xs ≡ volume ds
        → Swapping (sliced di si ci) (patched di si ci) w p ((s + 0) * w) (0 * p) (k - 0) xs ys xs ys (patched ds ss cs xs ys) (sliced ds ss cs xs)
    swap-first xs ys w p k wide parts all full =
        let start : s + 0 ≡ s = omega arith in
        let none : 0 * p ≡ 0 = omega arith in
        let left : k - 0 ≡ c = omega arith in
        record {
          rest = refl;
          next = refl;
          long = refl;
          as_long = refl;
          done = (λ j. take (start j * wide j) xs ++ rows_written (patched di si ci) (wide j) (parts j) (left j) (drop (start j * wide j) xs) (drop (none j) ys)) ∙ sym (patched-outer outer within xs ys full);
          held = (λ j. take (none j) ys ++ rows_read (sliced di si ci) (wide j) (left j) (drop (start j * wide j) xs)) ∙ sym (sliced-outer outer within xs);
        }

-- a part of a list was exchanged for another of its length
after_part : {X : Type 0} (at w : ℕ) (xs row : List X) → at + w ≤ length xs → length row ≡ w
    → (take (at + w) (take at xs ++ (row ++ drop w (drop at xs))) ≡ take at xs ++ row) × (drop (at + w) (take at xs ++ (row ++ drop w (drop at xs))) ≡ drop w (drop at xs))
after_part at w xs row fits long =
    let front = take at xs in
    let back = drop w (drop at xs) in
    let split : front ++ (row ++ back) ≡ (front ++ row) ++ back = sym (append_assoc front row back) in
    let size : length (front ++ row) ≡ at + w = length-append front row ∙ omega (arith, length-take at xs, long) in
    (ap (take (at + w)) split ∙ take_at (front ++ row) back (at + w) size, ap (drop (at + w)) split ∙ drop_at (front ++ row) back (at + w) size)

length-part : {X : Type 0} (at w : ℕ) (xs row : List X) → at + w ≤ length xs → length row ≡ w → length (take at xs ++ (row ++ drop w (drop at xs))) ≡ length xs
length-part at w xs row fits long =
    length-append (take at xs) (row ++ drop w (drop at xs))
    ∙ omega (arith, length-append row (drop w (drop at xs)), length-take at xs, length-drop w (drop at xs), length-drop at xs, long)

-- one row is exchanged
pub swap-next : {X : Type 0} (f : List X → List X) (g : List X → List X → List X) (w p c k s : ℕ) (items values now_items now_values then_items then_values done held : List X)
    → k < c → (s + k) * w + w ≤ length items → k * p + p ≤ length values
    → Swapping f g w p ((s + k) * w) (k * p) (c - k) items values now_items now_values done held
    → ((r ys : List X) → length (g r ys) ≡ length r) → ((r : List X) → length r ≡ w → length (f r) ≡ p) → ((r ys zs : List X) → length ys ≡ p → g r (ys ++ zs) ≡ g r ys)
    → then_items ≡ take ((s + k) * w) now_items ++ (g (take w (drop ((s + k) * w) now_items)) (take p (drop (k * p) now_values)) ++ drop w (drop ((s + k) * w) now_items))
    → then_values ≡ take (k * p) now_values ++ (f (take w (drop ((s + k) * w) now_items)) ++ drop p (drop (k * p) now_values))
    → Swapping f g w p ((s + (k + 1)) * w) ((k + 1) * p) (c - (k + 1)) items values then_items then_values done held
swap-next f g w p c k s items values now_items now_values then_items then_values done held below fits parts before kept short enough e h =
    let at = (s + k) * w in
    let from = k * p in
    let at_next : (s + (k + 1)) * w ≡ at + w = omega arith in
    let from_next : (k + 1) * p ≡ from + p = omega arith in
    let left : c - k ≡ suc (c - (k + 1)) = omega arith in
    let row = take w (drop at items) in
    let old_row : take w (drop at now_items) ≡ row = ap (take w) before.rest in
    let run = take p (drop from values) in
    let old_run : take p (drop from now_values) ≡ run = ap (take p) before.next in
    let row_long : length row ≡ w = length-take w (drop at items) ∙ omega (arith, length-drop at items) in
    let run_long : length run ≡ p = length-take p (drop from values) ∙ omega (arith, length-drop from values) in
    let new_row = g row run in
    let new_run = f row in
    let new_row_long : length new_row ≡ w = kept row run ∙ row_long in
    let new_run_long : length new_run ≡ p = short row row_long in
    let items_fit : at + w ≤ length now_items = omega (arith, before.long) in
    let values_fit : from + p ≤ length now_values = omega (arith, before.as_long) in
    let items_now : then_items ≡ take at now_items ++ (new_row ++ drop w (drop at now_items)) = e ∙ (λ j. take at now_items ++ (g (old_row j) (old_run j) ++ drop w (drop at now_items))) in
    let values_now : then_values ≡ take from now_values ++ (new_run ++ drop p (drop from now_values)) = h ∙ (λ j. take from now_values ++ (f (old_row j) ++ drop p (drop from now_values))) in
    let items_after = after_part at w now_items new_row items_fit new_row_long in
    let values_after = after_part from p now_values new_run values_fit new_run_long in
    let rest_items : drop (at + w) items ≡ drop w (drop at items) = sym (drop-drop w at items) in
    let rest_values : drop (from + p) values ≡ drop p (drop from values) = sym (drop-drop p from values) in
    let front_items : take (at + w) then_items ≡ take at now_items ++ new_row = ap (take (at + w)) items_now ∙ items_after.0 in
    let front_values : take (from + p) then_values ≡ take from now_values ++ new_run = ap (take (from + p)) values_now ∙ values_after.0 in
    let enough_run : g row (drop from values) ≡ new_row = ap (g row) (sym (take-append-drop p (drop from values))) ∙ enough row run (drop p (drop from values)) run_long in
    let later = rows_written g w p (c - (k + 1)) (drop w (drop at items)) (drop p (drop from values)) in
    let more = rows_read f w (c - (k + 1)) (drop w (drop at items)) in
    record {
      rest = (λ j. drop (at_next j) then_items) ∙ ap (drop (at + w)) items_now ∙ items_after.1 ∙ ap (drop w) before.rest ∙ sym rest_items ∙ (λ j. drop (sym at_next j) items);
      next = (λ j. drop (from_next j) then_values) ∙ ap (drop (from + p)) values_now ∙ values_after.1 ∙ ap (drop p) before.next ∙ sym rest_values ∙ (λ j. drop (sym from_next j) values);
      long = ap length items_now ∙ length-part at w now_items new_row items_fit new_row_long ∙ before.long;
      as_long = ap length values_now ∙ length-part from p now_values new_run values_fit new_run_long ∙ before.as_long;
      done = (λ j. take (at_next j) then_items ++ rows_written g w p (c - (k + 1)) (drop (at_next j) items) (drop (from_next j) values))
          ∙ (λ j. front_items j ++ rows_written g w p (c - (k + 1)) (rest_items j) (rest_values j))
          ∙ append_assoc (take at now_items) new_row later
          ∙ (λ j. take at now_items ++ (sym enough_run j ++ later))
          ∙ (λ j. take at now_items ++ rows_written g w p (sym left j) (drop at items) (drop from values))
          ∙ before.done;
      held = (λ j. take (from_next j) then_values ++ rows_read f w (c - (k + 1)) (drop (at_next j) items))
          ∙ (λ j. front_values j ++ rows_read f w (c - (k + 1)) (rest_items j))
          ∙ append_assoc (take from now_values) new_run more
          ∙ (λ j. take from now_values ++ rows_read f w (sym left j) (drop at items))
          ∙ before.held;
    }

-- no row is left
pub swap-last : {X : Type 0} (f : List X → List X) (g : List X → List X → List X) (w p at from n : ℕ) (items values now_items now_values done held : List X) → n ≡ 0 → length values ≤ from
    → Swapping f g w p at from n items values now_items now_values done held → (now_items ≡ done) × (now_values ≡ held)
swap-last f g w p at from n items values now_items now_values done held none past all =
    let values_all : take from now_values ++ [] ≡ now_values = append-nil (take from now_values) ∙ take_all from now_values (omega (arith, all.as_long)) in (
      sym (take-append-drop at now_items) ∙ ap (λ l. take at now_items ++ l) all.rest ∙ (λ j. take at now_items ++ rows_written g w p (sym none j) (drop at items) (drop from values)) ∙ all.done,
      sym values_all ∙ (λ j. take from now_values ++ rows_read f w (sym none j) (drop at items)) ∙ all.held,
    )
