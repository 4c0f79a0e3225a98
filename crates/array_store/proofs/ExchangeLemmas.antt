-- The size of a region's elements, and of a list after they were exchanged for others.
use Rattle.std.proofs.Common.{ℕ, zero, suc, ◌+◌, ◌*◌, ◌-◌, ◌^◌, ◌≤◌, ◌<◌, nat_lt, true, false, Option, Some, None, List, [], ◌∷◌, ◌++◌, length, take, drop, ◌≡◌, sym, ap, ◌∙◌, arith, length-take, length-drop}
use Rattle.std.proofs.Math.Nat.{mul-le-mul_right}
use Rattle.std.proofs.lemmas.Bool.Decides.{nat_tests}
use Rattle.std.proofs.lemmas.List.{take-append-drop, nil_from_length, drop-drop}
use Rattle.etp_values.specs.Weight.{capped, weigh}
use Rattle.etp_values.specs.declared.data.AnyArray.{AnyArray}
use Rattle.etp_values.specs.declared.data.AnyArray.TheVariants.{ArrayOfBoolean, ArrayOfInt, ArrayOfLong, ArrayOfFloat, ArrayOfDouble, ArrayOfString, Bytes}
use Rattle.array_store.specs.Arrays.{elements, size_of, slice_of}
use Rattle.array_store.specs.Shape.{volume}
use Rattle.array_store.specs.Region.{sliced, patched}
use Rattle.array_store.proofs.RowLemmas.{rows_read, rows_written}
use Rattle.array_store.proofs.RegionLemmas.{Within, length-sliced, sliced-rows, patched-rows, patched-more}

pub weigh-append : {X : Type 0} (f : X → ℕ) (xs ys : List X) → weigh f (xs ++ ys) ≡ weigh f xs + weigh f ys
weigh-append f [] ys = omega arith
weigh-append f (x ∷ xs) ys = let rest = weigh-append f xs ys in omega (arith, rest)

weigh-split : {X : Type 0} (f : X → ℕ) (n : ℕ) (xs : List X) → weigh f xs ≡ weigh f (take n xs) + weigh f (drop n xs)
weigh-split f n xs = sym (ap (weigh f) (take-append-drop n xs)) ∙ weigh-append f (take n xs) (drop n xs)

-- what was taken out is as much smaller than the whole as what took its place is smaller than the new whole
pub record Exchanged {X : Type 0} (f : X → ℕ) (old taken put new : List X) : Type 0 where
  pub rest : ℕ
  pub before : weigh f old ≡ weigh f taken + rest
  pub after : weigh f new ≡ weigh f put + rest

row_fits : (n w len : ℕ) → suc n * w ≤ len → (w ≤ len) × (n * w ≤ len - w)
row_fits n w len h = let more : suc n * w ≡ w + n * w = omega arith in (omega (arith, more), omega (arith, more))

-- ---- rows

module _ {X : Type 0} (weight : X → ℕ) (f : List X → List X) (g : List X → List X → List X) (w p : ℕ)
    (one : (r ys : List X) → length r ≡ w → length ys ≡ p → Exchanged weight r (f r) ys (g r ys))
    (enough : (r ys zs : List X) → length ys ≡ p → g r (ys ++ zs) ≡ g r ys) where
  pub rows_exchanged : (n : ℕ) (xs ys : List X) → n * w ≤ length xs → length ys ≡ n * p → Exchanged weight xs (rows_read f w n xs) ys (rows_written g w p n xs ys)
  rows_exchanged zero xs ys h e =
      let none : ys ≡ [] = nil_from_length ys (omega (arith, e)) in
      record {
        rest = weigh weight xs;
        before = omega arith;
        after = omega (arith, ap (weigh weight) none);
      }
  rows_exchanged (suc n) xs ys h e =
      let fits = row_fits n w (length xs) h in
      let more : suc n * p ≡ p + n * p = omega arith in
      let row = take w xs in
      let run = take p ys in
      let row_long : length row ≡ w = length-take w xs ∙ omega (arith, fits.0) in
      let run_long : length run ≡ p = length-take p ys ∙ omega (arith, e, more) in
      let rest_long : n * w ≤ length (drop w xs) = omega (arith, fits.1, length-drop w xs) in
      let rest_run : length (drop p ys) ≡ n * p = length-drop p ys ∙ omega (arith, e, more) in
      let first = one row run row_long run_long in
      let later = rows_exchanged n (drop w xs) (drop p ys) rest_long rest_run in
      let read = rows_read f w n (drop w xs) in
      let written = rows_written g w p n (drop w xs) (drop p ys) in
      let cut : g row ys ≡ g row run = ap (g row) (sym (take-append-drop p ys)) ∙ enough row run (drop p ys) run_long in
      let cut_weight : weigh weight (g row ys) ≡ weigh weight (g row run) = ap (weigh weight) cut in
      let read_weight = weigh-append weight (f row) read in
      let written_weight = weigh-append weight (g row ys) written in
      let xs_weight = weigh-split weight w xs in
      let ys_weight = weigh-split weight p ys in
      record {
        rest = first.rest + later.rest;
        before = omega (arith, xs_weight, read_weight, first.before, later.before);
        after = omega (arith, ys_weight, written_weight, cut_weight, first.after, later.after);
      }

-- ---- a region

one_exchanged : {X : Type 0} (weight : X → ℕ) (xs ys : List X) → length xs ≡ 1 → length ys ≡ 1 → Exchanged weight xs (sliced [] [] [] xs) ys (patched [] [] [] xs ys)
unfolding sliced patched
one_exchanged weight [] ys e h = absurd (omega arith)
one_exchanged weight (x ∷ []) [] e h = absurd (omega arith)
one_exchanged weight (x ∷ []) (y ∷ []) e h = record { rest = 0; before = omega arith; after = omega arith }
one_exchanged weight (x ∷ []) (y ∷ z ∷ ys) e h = absurd (omega arith)
one_exchanged weight (x ∷ z ∷ xs) ys e h = absurd (omega arith)

pub region_exchanged : {X : Type 0} (weight : X → ℕ) (ds ss cs : List ℕ) (xs ys : List X) → Within ds ss cs → length xs ≡ volume ds → length ys ≡ volume cs
    → Exchanged weight xs (sliced ds ss cs xs) ys (patched ds ss cs xs ys)
region_exchanged weight [] [] [] xs ys h e a = one_exchanged weight xs ys e a
region_exchanged weight [] [] (c ∷ cs) xs ys h e a = absurd h
region_exchanged weight [] (s ∷ ss) [] xs ys h e a = absurd h
region_exchanged weight [] (s ∷ ss) (c ∷ cs) xs ys h e a = absurd h
region_exchanged weight (d ∷ ds) [] [] xs ys h e a = absurd h
region_exchanged weight (d ∷ ds) [] (c ∷ cs) xs ys h e a = absurd h
region_exchanged weight (d ∷ ds) (s ∷ ss) [] xs ys h e a = absurd h
region_exchanged {X} weight (d ∷ ds) (s ∷ ss) (c ∷ cs) xs ys h e a =
    let w = volume ds in
    let p = volume cs in
    let f : List X → List X = sliced ds ss cs in
    let g : List X → List X → List X = patched ds ss cs in
    let at = s * w in
    let bound : (s + c) * w ≤ d * w = mul-le-mul_right w h.0 in
    let room : (s + c) * w ≤ length xs = omega (arith, bound, e) in
    let parts : (s + c) * w ≡ s * w + c * w = omega arith in
    let left : c * w ≤ length (drop at xs) = omega (arith, length-drop at xs, room, parts) in
    let rows = rows_exchanged weight f g w p (λ r vs k l. region_exchanged weight ds ss cs r vs h.1 k l) (λ r vs zs k. patched-more ds ss cs r vs zs h.1 k) c (drop at xs) ys left a in
    let read : weigh weight (sliced (d ∷ ds) (s ∷ ss) (c ∷ cs) xs) ≡ weigh weight (rows_read f w c (drop at xs)) = ap (weigh weight) (sliced-rows d s c ds ss cs xs h.1) in
    let written : weigh weight (patched (d ∷ ds) (s ∷ ss) (c ∷ cs) xs ys) ≡ weigh weight (take at xs) + weigh weight (rows_written g w p c (drop at xs) ys) =
    ap (weigh weight) (patched-rows d s c ds ss cs xs ys h.1 room) ∙ weigh-append weight (take at xs) (rows_written g w p c (drop at xs) ys) in
    let whole = weigh-split weight at xs in
    record {
      rest = weigh weight (take at xs) + rows.rest;
      before = omega (arith, whole, read, rows.before);
      after = omega (arith, written, rows.after);
    }

-- ---- numbers, whose count determines their size

-- the size of each element, if all have the same
abbrev pub size_by : AnyArray → Option ℕ
size_by (ArrayOfBoolean l) = Some 1
size_by (ArrayOfInt l) = Some 4
size_by (ArrayOfLong l) = Some 8
size_by (ArrayOfFloat l) = Some 4
size_by (ArrayOfDouble l) = Some 8
size_by (ArrayOfString l) = None
size_by (Bytes b) = Some 1

by_count : {X : Type 0} (ds ss cs : List ℕ) (xs : List X) (size k : ℕ) → Within ds ss cs → length xs ≡ volume ds → size ≡ k → size * volume cs ≡ k * length (sliced ds ss cs xs)
by_count ds ss cs xs size k h full same = λ j. same j * sym (length-sliced ds ss cs xs h full) j

single : (n : ℕ) → 1 * n ≡ n
single n = omega arith

pub number-bytes : (ds ss cs : List ℕ) (a : AnyArray) (size : ℕ) → Within ds ss cs → elements a ≡ volume ds → size_by a ≡ Some size → capped (size * volume cs) ≡ capped (size_of (slice_of ds ss cs a))
number-bytes ds ss cs (ArrayOfBoolean l) size h full e = let k : size ≡ 1 = cc in ap capped (by_count ds ss cs l size 1 h full k ∙ single (length (sliced ds ss cs l)))
number-bytes ds ss cs (ArrayOfInt l) size h full e = let k : size ≡ 4 = cc in ap capped (by_count ds ss cs l size 4 h full k)
number-bytes ds ss cs (ArrayOfLong l) size h full e = let k : size ≡ 8 = cc in ap capped (by_count ds ss cs l size 8 h full k)
number-bytes ds ss cs (ArrayOfFloat l) size h full e = let k : size ≡ 4 = cc in ap capped (by_count ds ss cs l size 4 h full k)
number-bytes ds ss cs (ArrayOfDouble l) size h full e = let k : size ≡ 8 = cc in ap capped (by_count ds ss cs l size 8 h full k)
number-bytes ds ss cs (ArrayOfString l) size h full e = absurd cc
number-bytes ds ss cs (Bytes b) size h full e = let k : size ≡ 1 = cc in ap capped (by_count ds ss cs b size 1 h full k ∙ single (length (sliced ds ss cs b)))

-- ---- what was counted

pub heavy-weight : (n b : ℕ) → b ≡ capped n → nat_lt 33554432 b ≡ true → nat_lt 33554432 n ≡ true
heavy-weight n b e h = grind (arith, nat_tests)

pub light-weight : (n b : ℕ) → b ≡ capped n → nat_lt 33554432 b ≡ false → nat_lt 33554432 n ≡ false
light-weight n b e h = grind (arith, nat_tests)

-- ---- weighing row by row

capped_step : (sum a b : ℕ) → capped (capped (sum + capped a) + b) ≡ capped (sum + (a + b))
capped_step sum a b = grind (arith)

pub none-before : (n : ℕ) → 0 + n ≡ n
none-before n = omega arith

pub capped-fits : (now n : ℕ) → now ≡ capped n → now ≤ 2 ^ 64 - 1
capped-fits now n e = grind (arith)

whole_sum : (sum : ℕ) → sum ≤ 2 ^ 64 - 1 → sum ≡ capped (sum + 0)
whole_sum sum h = grind (arith)

-- no row is left
pub weigh-last : {X : Type 0} (weight : X → ℕ) (f : List X → List X) (w n sum whole : ℕ) (xs : List X) → n ≡ 0 → sum ≤ 2 ^ 64 - 1
    → capped (sum + weigh weight (rows_read f w n xs)) ≡ whole → sum ≡ whole
weigh-last weight f w n sum whole xs none fits h =
    whole_sum sum fits ∙ ap (λ k. capped (sum + weigh weight (rows_read f w k xs))) (sym none) ∙ h

-- one row is weighed
pub weigh-next : {X : Type 0} (weight : X → ℕ) (f : List X → List X) (w c k s sum now whole : ℕ) (xs : List X) → k < c
    → capped (sum + weigh weight (rows_read f w (c - k) (drop ((s + k) * w) xs))) ≡ whole
    → now ≡ capped (sum + capped (weigh weight (f (take w (drop ((s + k) * w) xs)))))
    → capped (now + weigh weight (rows_read f w (c - (k + 1)) (drop ((s + (k + 1)) * w) xs))) ≡ whole
weigh-next weight f w c k s sum now whole xs below before row =
    let left : c - k ≡ suc (c - (k + 1)) = omega arith in
    let at : (s + (k + 1)) * w ≡ (s + k) * w + w = omega arith in
    let one = f (take w (drop ((s + k) * w) xs)) in
    let more = rows_read f w (c - (k + 1)) (drop w (drop ((s + k) * w) xs)) in
    (λ j. capped (row j + weigh weight (rows_read f w (c - (k + 1)) ((ap (λ n. drop n xs) at ∙ sym (drop-drop w ((s + k) * w) xs)) j))))
    ∙ capped_step sum (weigh weight one) (weigh weight more)
    ∙ ap (λ n. capped (sum + n)) (sym (weigh-append weight one more))
    ∙ ap (λ n. capped (sum + weigh weight (rows_read f w n (drop ((s + k) * w) xs)))) (sym left)
    ∙ before
