-- Numbers in decimal.
use Rattle.std.specs.Prelude.{ℕ, ◌≡◌, ◌+◌, ◌-◌, ◌*◌, ◌<◌, List, [], ◌∷◌, length, true, slice_index}
use Rattle.std.specs.Str.{all_ascii_digits}

-- the value of digits, most significant first, that follow a number
abbrev pub read_on : ℕ → List ℕ → ℕ
read_on n [] = n
read_on n (d ∷ ds) = read_on (10 * n + (d - 48)) ds

-- the digits of a number, with no leading zero
pub record IsDecimal (n : ℕ) (ds : List ℕ) : Type 0 where
  pub digits : all_ascii_digits ds ≡ true
  pub some : 0 < length ds
  pub value : read_on 0 ds ≡ n
  pub first : slice_index ds 0 ≡ 48 → length ds ≡ 1
