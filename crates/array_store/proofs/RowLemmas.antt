-- Lists in rows of one length, read and written row by row.
use Rattle.std.proofs.Common.{ℕ, zero, suc, ◌+◌, ◌*◌, ◌-◌, ◌≤◌, List, [], ◌∷◌, ◌++◌, length, take, drop, ◌≡◌, refl, ◌∙◌, arith, length-take, length-drop}
use Rattle.std.proofs.lemmas.List.{take_at, drop_at, take-append-drop}

-- what `f` gives for each of n rows
abbrev pub rows_read : {X : Type 0} → (List X → List X) → ℕ → ℕ → List X → List X
rows_read f w zero xs = []
rows_read f w (suc n) xs = f (take w xs) ++ rows_read f w n (drop w xs)

-- the first n rows as `g` leaves each, if it takes p values
abbrev pub rows_written : {X : Type 0} → (List X → List X → List X) → ℕ → ℕ → ℕ → List X → List X → List X
rows_written g w p zero xs ys = xs
rows_written g w p (suc n) xs ys = g (take w xs) ys ++ rows_written g w p n (drop w xs) (drop p ys)

row_fits : (n w len : ℕ) → suc n * w ≤ len → (w ≤ len) × (n * w ≤ len - w)
row_fits n w len h = let more : suc n * w ≡ w + n * w = omega arith in (omega (arith, more), omega (arith, more))

module _ {X : Type 0} (f : List X → List X) (g : List X → List X → List X) (w p : ℕ)
    (kept : (r ys : List X) → length r ≡ w → length (g r ys) ≡ w)
    (short : (r : List X) → length r ≡ w → length (f r) ≡ p) where
  -- if writing what was read of a row gives the row back, the same holds for rows
  module _ (back : (r ys zs : List X) → length r ≡ w → g (g r ys) (f r ++ zs) ≡ r) where
    pub rows_back : (n : ℕ) (xs ys : List X) → n * w ≤ length xs → rows_written g w p n (rows_written g w p n xs ys) (rows_read f w n xs) ≡ xs
    rows_back zero xs ys h = refl
    rows_back (suc n) xs ys h =
        let fits = row_fits n w (length xs) h in
        let front : length (take w xs) ≡ w = length-take w xs ∙ omega (arith, fits.0) in
        let rest : n * w ≤ length (drop w xs) = omega (arith, fits.1, length-drop w xs) in
        let row = g (take w xs) ys in
        let later = rows_written g w p n (drop w xs) (drop p ys) in
        let read = f (take w xs) in
        let more = rows_read f w n (drop w xs) in
        let first : take w (row ++ later) ≡ row = take_at row later w (kept (take w xs) ys front) in
        let second : drop w (row ++ later) ≡ later = drop_at row later w (kept (take w xs) ys front) in
        let third : drop p (read ++ more) ≡ more = drop_at read more p (short (take w xs) front) in
        (λ j. g (first j) (read ++ more) ++ rows_written g w p n (second j) (third j))
        ∙ (λ j. back (take w xs) ys more front j ++ rows_back n (drop w xs) (drop p ys) rest j)
        ∙ take-append-drop w xs

-- ---- rows of one element

pub rows_read-one : {X : Type 0} (f : List X → List X) → ((r : List X) → length r ≡ 1 → f r ≡ r) → (n : ℕ) (xs : List X) → n ≤ length xs → rows_read f 1 n xs ≡ take n xs
rows_read-one f same zero xs h = refl
rows_read-one f same (suc n) [] h = absurd (omega arith)
rows_read-one f same (suc n) (x ∷ xs) h = λ j. same (x ∷ []) refl j ++ rows_read-one f same n xs (omega arith) j

pub rows_written-one : {X : Type 0} (g : List X → List X → List X) → ((r : List X) (y : X) (ys : List X) → length r ≡ 1 → g r (y ∷ ys) ≡ y ∷ [])
    → (n : ℕ) (xs ys : List X) → n ≤ length xs → length ys ≡ n → rows_written g 1 1 n xs ys ≡ ys ++ drop n xs
rows_written-one g puts zero xs [] h e = refl
rows_written-one g puts zero xs (y ∷ ys) h e = absurd (omega arith)
rows_written-one g puts (suc n) xs [] h e = absurd (omega arith)
rows_written-one g puts (suc n) [] (y ∷ ys) h e = absurd (omega arith)
rows_written-one g puts (suc n) (x ∷ xs) (y ∷ ys) h e = λ j. puts (x ∷ []) y ys refl j ++ rows_written-one g puts n xs ys (omega arith) (omega arith) j
