-- Counts in a word that are too large.
use Rattle.std.proofs.Common.{◌≡◌, ◌<◌, ℕ, false, nat_le, List, arith}
use Rattle.std.proofs.lemmas.Bool.{lt-leb}
use Rattle.etp_outside.specs.Decimal.{read_on}
use Rattle.etp_outside.proofs.DecimalLemmas.{read_on_grows}

-- further digits only make a number larger
pub beyond : (n : ℕ) (digits : List ℕ) → 1000000 < n → nat_le (read_on n digits) 1000000 ≡ false
beyond n digits over = let more = read_on_grows n digits in lt-leb (read_on n digits) 1000000 (omega (arith, more, over))
