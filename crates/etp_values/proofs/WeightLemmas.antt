-- Sums that stop at the greatest 64-bit number; for the crates above too.
use Rattle.std.proofs.Common.{◌≡◌, ◌+◌, ◌*◌, ℕ, List, [], ◌∷◌, length, refl, arith}
use Rattle.etp_values.specs.Weight.{capped, weigh, plain_weight}

pub weigh-plain : {X : Type 0} (xs : List X) → weigh plain_weight xs ≡ 8 * length xs
weigh-plain [] = refl
weigh-plain (x ∷ xs) = omega (arith, weigh-plain xs)

pub capped-sum : (m n : ℕ) → capped (capped m + capped n) ≡ capped (m + n)
capped-sum m n = grind (arith)
