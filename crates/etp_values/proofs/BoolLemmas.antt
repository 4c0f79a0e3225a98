-- Tests and what follows from them: for this crate and those above it.
use Rattle.std.proofs.Common.{◌≡◌, ◌==◌, ◌<◌, ℕ, suc, Bool, true, false, refl, arith}
use Rattle.std.proofs.lemmas.Bool.Decides.{nat_tests}

-- what holds in both cases
pub by_test : {P : Type 0} (b : Bool) → (b ≡ true → P) → (b ≡ false → P) → P
by_test true holds fails = holds refl
by_test false holds fails = fails refl

-- ---- tests of numbers

pub differs : (m n : ℕ) → m < n → (m == n) ≡ false
differs m n h = grind (arith, nat_tests, h)

pub not_zero : (n : ℕ) (t : Bool) → (suc n == 0) ≡ t → t ≡ false
not_zero n true e = absurd (zero_is n e)
  where
    zero_is : (n : ℕ) → (suc n == 0) ≡ true → ⊥
    zero_is n h = grind (arith, nat_tests)
not_zero n false e = refl
