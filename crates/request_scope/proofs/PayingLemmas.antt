-- Whether a payload is counted is the same for a size that stops at the greatest 64-bit number.
use Rattle.std.specs.Prelude.{ℕ, ◌≡◌}
use Rattle.std.proofs.Common.{arith}
use Rattle.std.proofs.lemmas.Bool.Decides.{nat_tests}
use Rattle.etp_values.specs.Weight.{capped}
use Rattle.request_scope.specs.Scope.{pays, paying}
use Rattle.request_scope.specs.declared.within.Scope.{Scope}

pub pays_capped : (s : Scope) (size : ℕ) → pays s (capped size) ≡ pays s size
pays_capped s size = grind (arith, nat_tests)

pub paying_capped : (s : Scope) (size : ℕ) → paying s (capped size) ≡ paying s size
paying_capped s size = grind (arith, nat_tests, pays_capped)
