-- Tests of integers; for the crates above too.
use Rattle.std.proofs.Common.{◌≡◌, ℕ, ℤ, pos, negsuc, int_lt, true, false, arith}
use Rattle.std.specs.Ordering.{int_eq}
use Rattle.std.proofs.lemmas.Int.{ints}

pub int_eq_is : (a b : ℤ) → int_eq a b ≡ true → a ≡ b
int_eq_is a b h = grind (arith, ints)

pub int_eq_self : (a : ℤ) → int_eq a a ≡ true
int_eq_self a = grind (arith, ints)

pub pos_apart : (j k : ℕ) → (j ≡ k → ⊥) → int_eq (pos j) (pos k) ≡ false
pos_apart j k h = grind (arith, ints)

pub neg_apart : (j k : ℕ) → int_eq (pos j) (negsuc k) ≡ false
neg_apart j k = grind (arith, ints)

pub pos_not_below : (k : ℕ) → int_lt (pos k) (pos 0) ≡ false
pos_not_below k = grind (arith, ints)

pub neg_below : (k : ℕ) → int_lt (negsuc k) (pos 0) ≡ true
neg_below k = grind (arith, ints)

pub int_lt_trans : (i j k : ℤ) → int_lt i j ≡ true → int_lt j k ≡ true → int_lt i k ≡ true
int_lt_trans i j k h l = grind (arith, ints, h, l)
