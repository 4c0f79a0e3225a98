-- The moments of a clock that goes in steps.
use Rattle.std.proofs.Common.{◌≡◌, ℕ, suc, ◌+◌, ◌*◌, ◌%◌, ◌^◌, ◌<◌, sym, ap, ◌∙◌, arith}
use Rattle.std.proofs.Math.Nat.{mod-add-mod, mod-eq_of_lt}
use Rattle.etp_outside.specs.Steps.{bits_at}

pub bits_first : (start step : ℕ) → start < 2 ^ 64 → start ≡ bits_at start step 0
unfolding bits_at
bits_first start step fits =
    sym (mod-eq_of_lt fits) ∙ ap (λ n. n % 2 ^ 64) (omega arith)

pub bits_more : (start step i : ℕ) → (bits_at start step i + step) % 2 ^ 64 ≡ bits_at start step (suc i)
unfolding bits_at
bits_more start step i =
    mod-add-mod (start + i * step) (2 ^ 64) step ∙ ap (λ n. n % 2 ^ 64) (omega arith)
