-- The moments of a clock that goes in steps.
use Rattle.std.specs.Prelude.{ℕ, ℤ, zero, suc, ◌+◌, ◌*◌, ◌%◌, ◌^◌, Bool, List, [], ◌∷◌, ◌++◌, length}
use Rattle.std.specs.Int.{cast_signed, w64}
use Rattle.std.specs.Ordering.{int_eq}
use Rattle.std.specs.Cmp.Lexicographic.{pointwise}

-- the start and the step, as the bits of an `i64`, and how many moments were returned
pub record Steps : Type 0 where
  pub start : ℕ
  pub step : ℕ
  pub count : ℕ

-- the bits of a moment: the start plus this number of steps, modulo 2 ^ 64
unfoldable pub bits_at : ℕ → ℕ → ℕ → ℕ
bits_at start step i = (start + i * step) % 2 ^ 64

abbrev pub moment_at : ℕ → ℕ → ℕ → ℤ
moment_at start step i = cast_signed w64 (bits_at start step i)

-- the first moments, this many of them
abbrev pub moments : ℕ → ℕ → ℕ → List ℤ
moments start step zero = []
moments start step (suc n) = moments start step n ++ moment_at start step n ∷ []

-- whether these are the first moments
abbrev pub is_stepping : ℕ → ℕ → List ℤ → Bool
is_stepping start step ms = pointwise int_eq ms (moments start step (length ms))
