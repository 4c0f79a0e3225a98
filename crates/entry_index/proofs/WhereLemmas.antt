-- The places of the entries that pass a test, one more entry, and the first from a place on: for this crate and those above it.
use Rattle.std.proofs.Common.{ℕ, zero, suc, ◌+◌, ◌<◌, ◌≤◌, Bool, true, false, cond, List, [], ◌∷◌, ◌++◌, length, drop, ◌≡◌, Some, refl, sym, ap, ◌∙◌, arith}
use Rattle.std.specs.Prelude.{find, nat_le}
use Rattle.etp_values.proofs.BoolLemmas.{by_test}
use Rattle.entry_index.specs.Where.{places_where, first_where, PlacesGoOn, FirstIsFound}
use Rattle.entry_index.proofs.ChainLemmas.{nat_le-true, nat_le-false}

-- ---- one more entry

push-cond : (a b : Bool) (p n m : ℕ) (r q : List ℕ) → n ≡ m → r ≡ cond b (q ++ n ∷ []) q → cond a (p ∷ r) r ≡ cond b (cond a (p ∷ q) q ++ m ∷ []) (cond a (p ∷ q) q)
push-cond true true p n m r q same h = ap (λ l. p ∷ l) h ∙ ap (λ k. p ∷ (q ++ k ∷ [])) same
push-cond true false p n m r q same h = ap (λ l. p ∷ l) h
push-cond false true p n m r q same h = h ∙ ap (λ k. q ++ k ∷ []) same
push-cond false false p n m r q same h = h

module _ {X : Type 0} (test : X → Bool) where
  places-push : (place : ℕ) (xs : List X) (x : X) → places_where test place (xs ++ x ∷ []) ≡ cond (test x) (places_where test place xs ++ (place + length xs) ∷ []) (places_where test place xs)
  places-push place [] x =
      let same : place ≡ place + 0 = omega arith in
      ap (λ n. cond (test x) (n ∷ []) []) same
  places-push place (y ∷ ys) x =
      push-cond (test y) (test x) place (place + 1 + length ys) (place + length (y ∷ ys)) (places_where test (place + 1) (ys ++ x ∷ [])) (places_where test (place + 1) ys) (omega arith) (places-push (place + 1) ys x)

  -- ---- the first from a place on

  -- if none is before the place
  found-all : (from place : ℕ) (xs : List X) → from ≤ place → find (nat_le from) (places_where test place xs) ≡ first_where test place xs
  found-all from place [] h = refl
  found-all from place (x ∷ xs) h =
      let rest = places_where test (place + 1) xs in
      by_test (test x)
      (λ b. ap (λ t. find (nat_le from) (cond t (place ∷ rest) rest)) b ∙ ap (λ t. cond t (Some place) (find (nat_le from) rest)) (nat_le-true from place h)
      ∙ sym (ap (λ t. cond t (Some place) (first_where test (place + 1) xs)) b))
      (λ b. ap (λ t. find (nat_le from) (cond t (place ∷ rest) rest)) b ∙ found-all from (place + 1) xs (omega (arith, h))
      ∙ sym (ap (λ t. cond t (Some place) (first_where test (place + 1) xs)) b))

  -- an entry before it
  found-later : (from place : ℕ) (b : Bool) (rest : List ℕ) → place < from → find (nat_le from) (cond b (place ∷ rest) rest) ≡ find (nat_le from) rest
  found-later from place true rest h = ap (λ t. cond t (Some place) (find (nat_le from) rest)) (nat_le-false from place h)
  found-later from place false rest h = refl

  found-from : (k from place : ℕ) (xs : List X) → from ≡ place + k → find (nat_le from) (places_where test place xs) ≡ first_where test from (drop k xs)
  found-from zero from place xs h =
      let same : place ≡ from = omega (arith, h) in
      found-all from place xs (omega (arith, h)) ∙ ap (λ n. first_where test n xs) same
  found-from (suc k) from place [] h = refl
  found-from (suc k) from place (x ∷ xs) h = found-later from place (test x) (places_where test (place + 1) xs) (omega (arith, h)) ∙ found-from k from (place + 1) xs (omega (arith, h))

pub places-go-on : {X : Type 0} → PlacesGoOn X
places-go-on test xs x =
    let same : 0 + length xs ≡ length xs = omega arith in
    places-push test 0 xs x ∙ ap (λ n. cond (test x) (places_where test 0 xs ++ n ∷ []) (places_where test 0 xs)) same

pub first-is-found : {X : Type 0} → FirstIsFound X
first-is-found test from xs = found-from test from from 0 xs (omega arith)
