-- A count written as a word.
use Rattle.std.specs.Prelude.{ℕ, ◌==◌, ◌&&◌, Bool, true, List, [], ◌∷◌, nat_le, nat_lt, if◌then◌else◌, Option, None, Some}
use Rattle.std.specs.Str.{all_ascii_digits}
use Rattle.etp_outside.specs.Decimal.{read_on}

-- a word that is not a count: the empty one, or one with a leading zero
abbrev pub begins_none : List ℕ → Bool
begins_none [] = true
begins_none (digit ∷ digits) = digit == 48

-- the number that digits denote when they follow those of another, if it is at most a million
abbrev pub number_on : ℕ → List ℕ → Option ℕ
number_on n digits = if all_ascii_digits digits && nat_le (read_on n digits) 1000000 then Some (read_on n digits) else None

-- a number, if it is no less than this one
abbrev pub from_least : ℕ → Option ℕ → Option ℕ
from_least least None = None
from_least least (Some n) = if nat_lt n least then None else Some n

-- the count that a word denotes in decimal digits without a leading zero: at most 1,000,000, at least 1, and at least the least
abbrev pub count_in : ℕ → List ℕ → Option ℕ
count_in least word = if begins_none word then None else from_least least (number_on 0 word)
