-- Sums over lists, elements by their places, and rising numbers; for the crates above too.
use Rattle.std.proofs.Common.{◌≡◌, ◌≢◌, ◌⊎◌, ℕ, zero, suc, ◌+◌, ◌≤◌, ◌<◌, eq-eqb, ne_eqb, List, [], ◌∷◌, ◌++◌, length, Some, refl, ap, sym, subst, inl, inr, ⊎_elim, arith, zero-add}
use mathlib.Core.Option.{some, some-injective, some-ne-none}
use lib.ListN.{get_elem?}
use Rattle.std.proofs.Math.ListN.{set}
use Rattle.atomic_table.proofs.Lists.{at_snoc}
use Rattle.etp_values.specs.Rising.{Rises}
use Rattle.etp_values.specs.Weight.{weigh}
use Rattle.etp_values.proofs.RisingLemmas.{rises_bound}
use Rattle.turn_book.specs.Lists.{Each, one_if, occurrences, last}

-- the sum after a change of one element
pub weigh_set : {X : Type 0} (f : X → ℕ) (xs : List X) (i : ℕ) (x y : X) → get_elem? xs i ≡ some x → weigh f (set xs i y) + f x ≡ weigh f xs + f y
weigh_set f [] i x y at = absurd (some-ne-none x (sym at))
weigh_set f (z ∷ xs) zero x y at = let e : f z ≡ f x = ap f (some-injective z x at) in omega arith
weigh_set f (z ∷ xs) (suc i) x y at = let r = weigh_set f xs i x y at in omega arith

-- one element is a part of the sum
pub weigh_at : {X : Type 0} (f : X → ℕ) (xs : List X) (i : ℕ) (x : X) → get_elem? xs i ≡ some x → f x ≤ weigh f xs
weigh_at f [] i x at = absurd (some-ne-none x (sym at))
weigh_at f (z ∷ xs) zero x at = let e : f z ≡ f x = ap f (some-injective z x at) in omega arith
weigh_at f (z ∷ xs) (suc i) x at = let r = weigh_at f xs i x at in omega arith

-- two elements are a part of the sum
pub weigh_two : {X : Type 0} (f : X → ℕ) (xs : List X) (i j : ℕ) (x y : X) → i ≢ j → get_elem? xs i ≡ some x → get_elem? xs j ≡ some y → f x + f y ≤ weigh f xs
weigh_two f [] i j x y ne at there = absurd (some-ne-none x (sym at))
weigh_two f (z ∷ xs) zero zero x y ne at there = absurd (ne refl)
weigh_two f (z ∷ xs) zero (suc j) x y ne at there = let e : f z ≡ f x = ap f (some-injective z x at) in let r = weigh_at f xs j y there in omega arith
weigh_two f (z ∷ xs) (suc i) zero x y ne at there = let e : f z ≡ f y = ap f (some-injective z y there) in let r = weigh_at f xs i x at in omega arith
weigh_two f (z ∷ xs) (suc i) (suc j) x y ne at there = let r = weigh_two f xs i j x y (λ e. ne (ap suc e)) at there in omega arith

pub weigh_none : {X : Type 0} (f : X → ℕ) (xs : List X) → Each (λ x. f x ≡ 0) xs → weigh f xs ≡ 0
weigh_none f [] all = refl
weigh_none f (x ∷ xs) all = let a = all 0 x refl in let r = weigh_none f xs (λ i y at. all (suc i) y at) in omega arith

pub weigh_append : {X : Type 0} (f : X → ℕ) (xs ys : List X) → weigh f (xs ++ ys) ≡ weigh f xs + weigh f ys
weigh_append f [] ys = sym (zero-add (weigh f ys))
weigh_append f (x ∷ xs) ys = let r = weigh_append f xs ys in omega arith

pub occurrences_append : (n : ℕ) (xs ys : List ℕ) → occurrences n (xs ++ ys) ≡ occurrences n xs + occurrences n ys
occurrences_append n xs ys = weigh_append (one_if n) xs ys

pub one_if_same : (n x : ℕ) → x ≡ n → one_if n x ≡ 1
one_if_same n x e = rw (eq-eqb x n e) refl

pub one_if_other : (n x : ℕ) → x ≢ n → one_if n x ≡ 0
one_if_other n x e = rw (ne_eqb x n e) refl

pub occurrences_at : (n : ℕ) (xs : List ℕ) (i : ℕ) → get_elem? xs i ≡ some n → 1 ≤ occurrences n xs
occurrences_at n [] i at = absurd (some-ne-none n (sym at))
occurrences_at n (x ∷ xs) zero at = let e = one_if_same n x (some-injective x n at) in omega arith
occurrences_at n (x ∷ xs) (suc i) at = let r = occurrences_at n xs i at in omega arith

pub occurrences_none : (n : ℕ) (xs : List ℕ) → Each (λ x. x ≢ n) xs → occurrences n xs ≡ 0
occurrences_none n [] all = refl
occurrences_none n (x ∷ xs) all = let e = one_if_other n x (all 0 x refl) in let r = occurrences_none n xs (λ i y at. all (suc i) y at) in omega arith

pub at_append : {X : Type 0} (xs ys : List X) (j : ℕ) (b : X) → get_elem? (xs ++ ys) j ≡ some b → (get_elem? xs j ≡ some b) ⊎ ((i : ℕ) × (get_elem? ys i ≡ some b))
at_append [] ys j b at = inr (j, at)
at_append (x ∷ xs) ys zero b at = inl at
at_append (x ∷ xs) ys (suc j) b at = at_append xs ys j b at

pub each_append : {X : Type 0} (P : X → Type 0) (xs ys : List X) → Each P xs → Each P ys → Each P (xs ++ ys)
each_append P xs ys a b i x at = ⊎_elim (λ here. a i x here) (λ t. b t.0 x t.1) (at_append xs ys i x at)

pub each_snoc : {X : Type 0} (P : X → Type 0) (xs : List X) (y : X) → Each P xs → P y → Each P (xs ++ y ∷ [])
each_snoc P xs y a p i x at = ⊎_elim (λ here. a i x here) (λ e. subst P e p) (at_snoc xs y x i at)

-- what holds for each element of two joined lists holds for those of the second
pub each_right : {X : Type 0} (P : X → Type 0) (xs ys : List X) → Each P (xs ++ ys) → Each P ys
each_right P [] ys all = all
each_right P (x ∷ xs) ys all = each_right P xs ys (λ i y at. all (suc i) y at)

pub each_none : {X : Type 0} (P : X → Type 0) → Each P []
each_none P i x at = absurd (some-ne-none x (sym at))

pub each_two : {X : Type 0} (P : X → Type 0) (x y : X) → P x → P y → Each P (x ∷ y ∷ [])
each_two P x y p q zero o at = subst P (some-injective x o at) p
each_two P x y p q (suc zero) o at = subst P (some-injective y o at) q
each_two P x y p q (suc (suc i)) o at = absurd (some-ne-none o (sym at))

-- each is at most the upper bound
pub rises_each : (low : ℕ) (xs : List ℕ) (high : ℕ) → Rises low xs high → Each (λ x. x ≤ high) xs
rises_each low [] high r i y at = absurd (some-ne-none y (sym at))
rises_each low (x ∷ xs) high r zero y at = let up = rises_bound x xs high r.1 in subst (λ z. z ≤ high) (some-injective x y at) up
rises_each low (x ∷ xs) high r (suc i) y at = rises_each x xs high r.1 i y at

pub at_within : {X : Type 0} (l : List X) (i : ℕ) (x : X) → get_elem? l i ≡ some x → i < length l
at_within [] i x at = absurd (some-ne-none x (sym at))
at_within (y ∷ l) zero x at = omega arith
at_within (y ∷ l) (suc i) x at = let r = at_within l i x at in omega arith

-- what holds for each element at its place, and for one more at the end
pub at_new : {X : Type 0} (P : ℕ → X → Type 0) (l : List X) (y : X) → P (length l) y → ((j : ℕ) (x : X) → get_elem? l j ≡ some x → P j x) → (j : ℕ) (x : X) → get_elem? (l ++ y ∷ []) j ≡ some x → P j x
at_new P [] y p all zero x at = subst (P 0) (some-injective y x at) p
at_new P [] y p all (suc j) x at = absurd (some-ne-none x (sym at))
at_new P (z ∷ l) y p all zero x at = all zero x at
at_new P (z ∷ l) y p all (suc j) x at = at_new (λ k u. P (suc k) u) l y p (λ k u found. all (suc k) u found) j x at

pub last_snoc : {X : Type 0} (xs : List X) (x : X) → last (xs ++ x ∷ []) ≡ Some x
last_snoc [] x = refl
last_snoc (y ∷ []) x = refl
last_snoc (y ∷ (z ∷ xs)) x = last_snoc (z ∷ xs) x
