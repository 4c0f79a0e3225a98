-- The points of a list that are sent, one by one.
use Rattle.std.proofs.Common.{ℕ, zero, suc, ◌≡◌, ◌<◌, ℤ, true, false, cond, List, [], ◌∷◌, length, map, drop, Some, slice_get, ap, sym, subst, ◌∙◌, arith, add-one, append_assoc, ◌++◌, ◌+◌}
use Rattle.std.proofs.lemmas.Option.{none-some, same_Some}
use Rattle.etp_values.specs.declared.point.Point.{Point}
use Rattle.channel_store.specs.declared.change.What.TheVariants.{Append}
use Rattle.channel_store.specs.Points.{at_most, append_of, past}
use Rattle.subscribe_core.specs.Views.{IsTold, below}

-- the point at an index is not sent
past-next : (s : ℤ) (xs : List Point) (k : ℕ) (i : ℤ) → slice_get (map (λ x. x.index) xs) k ≡ Some i → at_most s i ≡ false
    → past s (drop k xs) ≡ past s (drop (suc k) xs)
past-next s [] k i h n = absurd (none-some i h)
past-next s (x ∷ xs) zero i h n = ap (λ b. cond b (x ∷ past s xs) (past s xs)) (ap (at_most s) (same_Some x.index i h) ∙ n)
past-next s (x ∷ xs) (suc k) i h n = past-next s xs k i h n

-- the point at an index is sent
past-told : (s : ℤ) (xs : List Point) (k : ℕ) (i : ℤ) (p : Point) → slice_get (map (λ x. x.index) xs) k ≡ Some i → slice_get xs k ≡ Some p
    → at_most s i ≡ true → past s (drop k xs) ≡ p ∷ past s (drop (suc k) xs)
past-told s [] k i p h g n = absurd (none-some i h)
past-told s (x ∷ xs) zero i p h g n =
    ap (λ b. cond b (x ∷ past s xs) (past s xs)) (ap (at_most s) (same_Some x.index i h) ∙ n) ∙ ap (λ q. q ∷ past s xs) (same_Some x p g)
past-told s (x ∷ xs) (suc k) i p h g n = past-told s xs k i p h g n

-- the points from the first on that is sent
pub first-told : (s : ℤ) (xs : List Point) (k : ℕ) (i : ℤ) → slice_get (map (λ x. x.index) xs) k ≡ Some i → at_most s i ≡ true → IsTold s (drop k xs)
first-told s [] k i h n = absurd (none-some i h)
first-told s (x ∷ xs) zero i h n = ap (at_most s) (same_Some x.index i h) ∙ n
first-told s (x ∷ xs) (suc k) i h n = first-told s xs k i h n

-- if the first point is sent, an append is left
told-append : (s : ℤ) (xs : List Point) → IsTold s xs → 0 < length xs → Append (past s xs) ∷ [] ≡ append_of (past s xs)
told-append s [] t n = let f : ⊥ = omega (arith, n) in absurd f
told-append s (x ∷ xs) t n =
    ap (λ b. Append (cond b (x ∷ past s xs) (past s xs)) ∷ []) t ∙ sym (ap (λ b. append_of (cond b (x ∷ past s xs) (past s xs))) t)

-- after the points that are skipped something is left
pub append-told : (s z : ℤ) → z ≡ s → (xs : List Point) (k : ℕ) → past z (drop k xs) ≡ past z xs → IsTold z (drop k xs) → 0 < length (drop k xs)
    → Append (past s (drop k xs)) ∷ [] ≡ append_of (past s xs)
append-told s z e xs k h t n = subst (λ y. Append (past y (drop k xs)) ∷ [] ≡ append_of (past y xs)) e (told-append z (drop k xs) t n ∙ ap append_of h)

-- ---- one index further, with a start that went through a word

pub skipped-more : (s z : ℤ) → z ≡ s → (xs : List Point) (k : ℕ) (i : ℤ) → slice_get (map (λ x. x.index) xs) k ≡ Some i → at_most s i ≡ false
    → past z (drop k xs) ≡ past z xs → past z (drop (k + 1) xs) ≡ past z xs
skipped-more s z e xs k i h n whole =
    ap (λ j. past z (drop j xs)) (add-one k) ∙ sym (past-next z xs k i h (ap (λ y. at_most y i) e ∙ n)) ∙ whole

pub copied-left : (s z : ℤ) → z ≡ s → (xs : List Point) (k : ℕ) (i : ℤ) (old new whole : List Point) → slice_get (map (λ x. x.index) xs) k ≡ Some i
    → at_most s i ≡ false → new ≡ old → old ++ past z (drop k xs) ≡ whole → new ++ past z (drop (k + 1) xs) ≡ whole
copied-left s z e xs k i old new whole h n same so_far =
    ap (λ l. l ++ past z (drop (k + 1) xs)) same
    ∙ ap (λ j. old ++ past z (drop j xs)) (add-one k)
    ∙ ap (λ l. old ++ l) (sym (past-next z xs k i h (ap (λ y. at_most y i) e ∙ n)))
    ∙ so_far

pub copied-told : (s z : ℤ) → z ≡ s → (xs : List Point) (k : ℕ) (i : ℤ) (p : Point) (old new whole : List Point) → slice_get (map (λ x. x.index) xs) k ≡ Some i
    → slice_get xs k ≡ Some p → at_most s i ≡ true → new ≡ old ++ p ∷ [] → old ++ past z (drop k xs) ≡ whole → new ++ past z (drop (k + 1) xs) ≡ whole
copied-told s z e xs k i p old new whole h g n more so_far =
    ap (λ l. l ++ past z (drop (k + 1) xs)) more
    ∙ append_assoc old (p ∷ []) (past z (drop (k + 1) xs))
    ∙ ap (λ j. old ++ p ∷ past z (drop j xs)) (add-one k)
    ∙ ap (λ l. old ++ l) (sym (past-told z xs k i p h g (ap (λ y. at_most y i) e ∙ n)))
    ∙ so_far

-- ---- how many are skipped

below-next : (s : ℤ) (xs : List Point) (k : ℕ) (i : ℤ) → slice_get (map (λ x. x.index) xs) k ≡ Some i → at_most s i ≡ false
    → below s (drop k xs) ≡ suc (below s (drop (suc k) xs))
below-next s [] k i h n = absurd (none-some i h)
below-next s (x ∷ xs) zero i h n = ap (λ b. cond b 0 (suc (below s xs))) (ap (at_most s) (same_Some x.index i h) ∙ n)
below-next s (x ∷ xs) (suc k) i h n = below-next s xs k i h n

below-told : (s : ℤ) (xs : List Point) (k : ℕ) (i : ℤ) → slice_get (map (λ x. x.index) xs) k ≡ Some i → at_most s i ≡ true → below s (drop k xs) ≡ 0
below-told s [] k i h n = absurd (none-some i h)
below-told s (x ∷ xs) zero i h n = ap (λ b. cond b 0 (suc (below s xs))) (ap (at_most s) (same_Some x.index i h) ∙ n)
below-told s (x ∷ xs) (suc k) i h n = below-told s xs k i h n

one-more : (k b : ℕ) → k + 1 + b ≡ k + suc b
one-more k b = omega arith

nothing-more : (k b w : ℕ) → b ≡ 0 → k + b ≡ w → k ≡ w
nothing-more k b w e h = omega (arith, e, h)

pub counted-more : (s z : ℤ) → z ≡ s → (xs : List Point) (k : ℕ) (i : ℤ) → slice_get (map (λ x. x.index) xs) k ≡ Some i → at_most s i ≡ false
    → k + below z (drop k xs) ≡ below z xs → k + 1 + below z (drop (k + 1) xs) ≡ below z xs
counted-more s z e xs k i h n whole =
    ap (λ j. k + 1 + below z (drop j xs)) (add-one k)
    ∙ one-more k (below z (drop (suc k) xs))
    ∙ ap (λ m. k + m) (sym (below-next z xs k i h (ap (λ y. at_most y i) e ∙ n)))
    ∙ whole

pub counted : (s z : ℤ) → z ≡ s → (xs : List Point) (k : ℕ) (i : ℤ) → slice_get (map (λ x. x.index) xs) k ≡ Some i → at_most s i ≡ true
    → k + below z (drop k xs) ≡ below z xs → k ≡ below s xs
counted s z e xs k i h n whole =
    subst (λ y. k ≡ below y xs) e (nothing-more k (below z (drop k xs)) (below z xs) (below-told z xs k i h (ap (λ y. at_most y i) e ∙ n)) whole)
