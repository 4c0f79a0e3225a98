-- Lists whose items are changed by their numbers.
use Rattle.std.proofs.Common.{refl, ℕ, zero, suc, ◌≡◌, ◌<◌, ◌≤◌, ◌+◌, List, [], ◌∷◌, length, map, get_or, ap, sym, ◌∙◌, arith, subst, add-zero, Some, None, Ok, Err}
use Rattle.std.specs.Prelude.{slice_get, slice_set, Result}
use Rattle.channel_store.specs.declared.error.ChannelError.{ChannelError}
use Rattle.channel_store.specs.Channels.{Channel}
use Rattle.channel_store.specs.Rows.{Row}
use Rattle.channel_store.specs.Store.{by_number}
use Rattle.channel_store.specs.Sweeps.{modify, step_row, before_rows, with_row, shown_of}

module _ {X Y : Type 0} where
  pub by_number-same : (f g : ℕ → X → Y) (n : ℕ) (xs : List X) → ((k : ℕ) (x : X) → n ≤ k → f k x ≡ g k x) → by_number f n xs ≡ by_number g n xs
  by_number-same f g n [] h = refl
  by_number-same f g n (x ∷ xs) h = (λ j. h n x (omega arith) j ∷ by_number-same f g (suc n) xs (λ k y l. h k y (omega arith)) j)

  pub by_number-map : (h : X → Y) (n : ℕ) (xs : List X) → by_number (λ k x. h x) n xs ≡ map h xs
  by_number-map h n [] = refl
  by_number-map h n (x ∷ xs) = ap (λ l. h x ∷ l) (by_number-map h (suc n) xs)

  pub get-by_number : (f : ℕ → X → Y) (n k m : ℕ) (xs : List X) (x : X) → n + k ≡ m → slice_get xs k ≡ Some x → slice_get (by_number f n xs) k ≡ Some (f m x)
  get-by_number f n k m [] x e h = cc
  get-by_number f n zero m (y ∷ ys) x e h =
      let here : y ≡ x = cc in
      let same : n ≡ m = sym (add-zero n) ∙ e in
      (λ j. Some (f (same j) (here j)))
  get-by_number f n (suc k) m (y ∷ ys) x e h = get-by_number f (suc n) k m ys x (omega arith) h

  pub get-none : (f : ℕ → X → Y) (n k : ℕ) (xs : List X) → slice_get xs k ≡ None → slice_get (by_number f n xs) k ≡ None
  get-none f n k [] h = refl
  get-none f n zero (y ∷ ys) h = cc
  get-none f n (suc k) (y ∷ ys) h = get-none f (suc n) k ys h

module _ {X Y Z : Type 0} where
  pub by_number-after : (f : ℕ → Y → Z) (g : ℕ → X → Y) (n : ℕ) (xs : List X) → by_number f n (by_number g n xs) ≡ by_number (λ k x. f k (g k x)) n xs
  by_number-after f g n [] = refl
  by_number-after f g n (x ∷ xs) = ap (λ l. f n (g n x) ∷ l) (by_number-after f g (suc n) xs)

  pub map-by_number : (h : Y → Z) (g : ℕ → X → Y) (n : ℕ) (xs : List X) → map h (by_number g n xs) ≡ by_number (λ k x. h (g k x)) n xs
  map-by_number h g n [] = refl
  map-by_number h g n (x ∷ xs) = ap (λ l. h (g n x) ∷ l) (map-by_number h g (suc n) xs)

-- ---- steps of one row

pub step_row-ok : (f : Row → Result Row ChannelError) (absent : ChannelError) (g g' : ℕ → Channel → Row) (n k m : ℕ) (cs : List Channel) (c : Channel) → n + k ≡ m → slice_get cs k ≡ Some c
    → ((x : Channel) → slice_get cs k ≡ Some x → f (g m x) ≡ Ok (g' m x)) → ((j : ℕ) (x : Channel) → (j ≡ m → ⊥) → g j x ≡ g' j x) → step_row k f absent (by_number g n cs) ≡ Ok (by_number g' n cs)
step_row-ok f absent g g' n k m [] c e there here others = cc
step_row-ok f absent g g' n zero m (x ∷ xs) c e there here others =
    let at : m ≡ n = sym e ∙ add-zero n in
    let first : f (g n x) ≡ Ok (g' n x) = subst (λ q. f (g q x) ≡ Ok (g' q x)) at (here x refl) in
    let rest : by_number g (suc n) xs ≡ by_number g' (suc n) xs = by_number-same g g' (suc n) xs (λ j y l. others j y (λ q. absurd (omega arith))) in
    ap (λ r. before_rows r (by_number g (suc n) xs)) first ∙ ap (λ l. Ok (g' n x ∷ l)) rest
step_row-ok f absent g g' n (suc k) m (x ∷ xs) c e there here others =
    let same : g n x ≡ g' n x = others n x (λ q. absurd (omega arith)) in
    ap (with_row (g n x)) (step_row-ok f absent g g' (suc n) k m xs c (omega arith) there here others) ∙ ap (λ r. Ok (r ∷ by_number g' (suc n) xs)) same

pub step_row-err : (f : Row → Result Row ChannelError) (absent why : ChannelError) (g : ℕ → Channel → Row) (n k m : ℕ) (cs : List Channel) (c : Channel) → n + k ≡ m → slice_get cs k ≡ Some c
    → ((x : Channel) → slice_get cs k ≡ Some x → f (g m x) ≡ Err why) → step_row k f absent (by_number g n cs) ≡ Err why
step_row-err f absent why g n k m [] c e there here = cc
step_row-err f absent why g n zero m (x ∷ xs) c e there here =
    let at : m ≡ n = sym e ∙ add-zero n in
    ap (λ r. before_rows r (by_number g (suc n) xs)) (subst (λ q. f (g q x) ≡ Err why) at (here x refl))
step_row-err f absent why g n (suc k) m (x ∷ xs) c e there here = ap (with_row (g n x)) (step_row-err f absent why g (suc n) k m xs c (omega arith) there here)

pub step_row-absent : (f : Row → Result Row ChannelError) (absent : ChannelError) (g : ℕ → Channel → Row) (n k : ℕ) (cs : List Channel) → slice_get cs k ≡ None → step_row k f absent (by_number g n cs) ≡ Err absent
step_row-absent f absent g n k [] there = refl
step_row-absent f absent g n zero (x ∷ xs) there = cc
step_row-absent f absent g n (suc k) (x ∷ xs) there = ap (with_row (g n x)) (step_row-absent f absent g (suc n) k xs there)

-- ---- the code's writes

pub step_row-set : (f : Row → Result Row ChannelError) (absent : ChannelError) (k : ℕ) (rows : List Row) (r new : Row) → k < length rows → r ≡ get_or rows k r → f r ≡ Ok new → step_row k f absent rows ≡ Ok (slice_set rows k new)
step_row-set f absent k [] r new within at h = absurd (omega arith)
step_row-set f absent zero (x ∷ xs) r new within at h = ap (λ q. before_rows q xs) (ap f (sym at) ∙ h)
step_row-set f absent (suc k) (x ∷ xs) r new within at h = ap (with_row x) (step_row-set f absent k xs r new (omega arith) at h)

pub step_row-fails : (f : Row → Result Row ChannelError) (absent why : ChannelError) (k : ℕ) (rows : List Row) (r : Row) → k < length rows → r ≡ get_or rows k r → f r ≡ Err why → step_row k f absent rows ≡ Err why
step_row-fails f absent why k [] r within at h = absurd (omega arith)
step_row-fails f absent why zero (x ∷ xs) r within at h = ap (λ q. before_rows q xs) (ap f (sym at) ∙ h)
step_row-fails f absent why (suc k) (x ∷ xs) r within at h = ap (with_row x) (step_row-fails f absent why k xs r (omega arith) at h)

pub step_row-beyond : (f : Row → Result Row ChannelError) (absent : ChannelError) (k : ℕ) (rows : List Row) → length rows ≤ k → step_row k f absent rows ≡ Err absent
step_row-beyond f absent k [] h = refl
step_row-beyond f absent zero (x ∷ xs) h = absurd (omega arith)
step_row-beyond f absent (suc k) (x ∷ xs) h = ap (with_row x) (step_row-beyond f absent k xs (omega arith))

pub shown-set : (k : ℕ) (rows : List Row) (r new : Row) → k < length rows → r ≡ get_or rows k r → new.shown ≡ r.shown → shown_of (slice_set rows k new) ≡ shown_of rows
shown-set k [] r new within at h = absurd (omega arith)
shown-set zero (x ∷ xs) r new within at h = ap (λ c. c ∷ shown_of xs) (h ∙ ap (λ q. q.shown) at)
shown-set (suc k) (x ∷ xs) r new within at h = ap (λ l. x.shown ∷ l) (shown-set k xs r new (omega arith) at h)

pub modify-set : (f : Row → Row) (k : ℕ) (rows : List Row) (r : Row) → k < length rows → r ≡ get_or rows k r → slice_set rows k (f r) ≡ modify k f rows
modify-set f k [] r within at = absurd (omega arith)
modify-set f zero (x ∷ xs) r within at = ap (λ q. f q ∷ xs) at
modify-set f (suc k) (x ∷ xs) r within at = ap (λ l. x ∷ l) (modify-set f k xs r (omega arith) at)

pub modify-beyond : (f : Row → Row) (k : ℕ) (rows : List Row) → length rows ≤ k → modify k f rows ≡ rows
modify-beyond f k [] h = refl
modify-beyond f zero (x ∷ xs) h = absurd (omega arith)
modify-beyond f (suc k) (x ∷ xs) h = ap (λ l. x ∷ l) (modify-beyond f k xs (omega arith))

-- ---- a modified row among all

pub by_number-modify : (f g : ℕ → Row → Row) (h : Row → Row) (n k m : ℕ) (rows : List Row) → n + k ≡ m → ((r : Row) → g m (h r) ≡ f m r) → ((j : ℕ) (r : Row) → (j ≡ m → ⊥) → g j r ≡ f j r) → by_number g n (modify k h rows) ≡ by_number f n rows
by_number-modify f g h n k m [] e here others = refl
by_number-modify f g h n zero m (r ∷ rs) e here others =
    let at : m ≡ n = sym e ∙ add-zero n in
    (λ j. subst (λ q. g q (h r) ≡ f q r) at (here r) j ∷ by_number-same g f (suc n) rs (λ j y l. others j y (λ q. absurd (omega arith))) j)
by_number-modify f g h n (suc k) m (r ∷ rs) e here others =
    (λ j. others n r (λ q. absurd (omega arith)) j ∷ by_number-modify f g h (suc n) k m rs (omega arith) here others j)
