-- Shelves that are fed one by one.
use Rattle.std.proofs.Common.{refl, ℕ, zero, suc, ◌≡◌, ◌<◌, ◌≤◌, ◌+◌, List, [], ◌∷◌, ◌++◌, drop, length, get_or, map, slice_set, take, ap, arith, subst, ◌∙◌}
use Rattle.std.proofs.lemmas.List.Edits.{map_over_more}
use Rattle.channel_store.specs.declared.copy.ChangeMsg.{ChangeMsg}
use Rattle.watch_views.specs.Boards.{Reading, Keeps, IsFed, AllFed, AllKept, AreFed}

module _ {B : Type 0} (r : Reading B) where
  -- the first `count` are fed, and the others are as they were
  abbrev pub IsFedTo : ℕ → ChangeMsg → List B → List B → Type 0
  IsFedTo zero c xs ys = ys ≡ xs
  IsFedTo (suc n) c [] [] = Unit {0}
  IsFedTo (suc n) c (a ∷ xs) (b ∷ ys) = IsFed r c a b × IsFedTo n c xs ys
  IsFedTo (suc n) c xs ys = ⊥

  -- none is added or lost
  pub fed_length : (n : ℕ) (c : ChangeMsg) (xs ys : List B) → IsFedTo n c xs ys → length ys ≡ length xs
  fed_length zero c xs ys front = ap length front
  fed_length (suc n) c [] [] front = refl
  fed_length (suc n) c [] (y ∷ ys) front = absurd front
  fed_length (suc n) c (x ∷ xs) [] front = absurd front
  fed_length (suc n) c (x ∷ xs) (y ∷ ys) front = ap suc (fed_length n c xs ys front.1)

  kept_self : (xs : List B) → AllKept r xs xs
  kept_self [] = tt
  kept_self (x ∷ xs) = (record { channel_same = refl; held_is = refl; step_same = λ h w. refl; shown_same = λ h. refl }, kept_self xs)

  fed_more : (n : ℕ) (c : ChangeMsg) (xs ys : List B) (a b : B) → n < length ys → a ≡ get_or ys n a → IsFedTo n c xs ys → IsFed r c a b → IsFedTo (suc n) c xs (slice_set ys n b)
  fed_more zero c xs [] a b within at front fed = absurd (omega arith)
  fed_more zero c xs (y ∷ ys) a b within at front fed = subst (λ l. IsFedTo 1 c l (b ∷ ys)) front (subst (λ x. IsFed r c x b) at fed, refl)
  fed_more (suc n) c [] [] a b within at front fed = absurd (omega arith)
  fed_more (suc n) c [] (y ∷ ys) a b within at front fed = absurd front
  fed_more (suc n) c (x ∷ xs) [] a b within at front fed = absurd front
  fed_more (suc n) c (x ∷ xs) (y ∷ ys) a b within at front fed = (front.0, fed_more n c xs ys a b (omega arith) at front.1 fed)

  -- one more is fed
  pub fed_next : (n : ℕ) (c : ChangeMsg) (xs ys : List B) (a b : B) → n < length ys → a ≡ get_or ys n a → IsFedTo n c xs ys → IsFed r c a b → IsFedTo (n + 1) c xs (slice_set ys n b)
  fed_next n c xs ys a b within at front fed =
      let next : suc n ≡ n + 1 = omega arith in
      subst (λ k. IsFedTo k c xs (slice_set ys n b)) next (fed_more n c xs ys a b within at front fed)

  -- the next one is refused
  pub fed_stop : (n : ℕ) (c : ChangeMsg) (xs ys : List B) (a b : B) → n < length ys → a ≡ get_or ys n a → IsFedTo n c xs ys → (r.channel a ≡ c.channel) × Keeps r (r.held a) a b → AreFed r n c xs (slice_set ys n b)
  fed_stop zero c xs [] a b within at front stop = absurd (omega arith)
  fed_stop zero c xs (y ∷ ys) a b within at front stop =
      let here : (r.channel y ≡ c.channel) × Keeps r (r.held y) y b = subst (λ x. (r.channel x ≡ c.channel) × Keeps r (r.held x) x b) at stop in
      subst (λ l. AreFed r zero c l (b ∷ ys)) front (here.0, (here.1, kept_self ys))
  fed_stop (suc n) c [] [] a b within at front stop = absurd (omega arith)
  fed_stop (suc n) c [] (y ∷ ys) a b within at front stop = absurd front
  fed_stop (suc n) c (x ∷ xs) [] a b within at front stop = absurd front
  fed_stop (suc n) c (x ∷ xs) (y ∷ ys) a b within at front stop = (front.0, fed_stop n c xs ys a b (omega arith) at front.1 stop)

  -- all are fed
  pub fed_all : (n : ℕ) (c : ChangeMsg) (xs ys : List B) → length ys ≤ n → IsFedTo n c xs ys → AllFed r c xs ys
  fed_all zero c xs [] within front = subst (λ l. AllFed r c l []) front tt
  fed_all zero c xs (y ∷ ys) within front = absurd (omega arith)
  fed_all (suc n) c [] [] within front = tt
  fed_all (suc n) c [] (y ∷ ys) within front = absurd front
  fed_all (suc n) c (x ∷ xs) [] within front = absurd front
  fed_all (suc n) c (x ∷ xs) (y ∷ ys) within front = (front.0, fed_all n c xs ys (omega arith) front.1)

-- ---- the same done to each of a list

-- to the first `n`, and not to the others
abbrev pub first_mapped : {A : Type 0} → ℕ → List A → (A → A) → List A
first_mapped n xs f = map f (take n xs) ++ drop n xs

pub mapped_more : {A : Type 0} (f : A → A) (xs now : List A) (n : ℕ) (x new : A) → n < length xs → now ≡ first_mapped n xs f → x ≡ get_or now n x → new ≡ f x → slice_set now n new ≡ first_mapped (n + 1) xs f
mapped_more f xs now n x new within so_far at is = ap (λ y. slice_set now n y) is ∙ map_over_more f xs now n x within so_far at
