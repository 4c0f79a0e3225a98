-- Numbers as the words of a command line and the lines of an input have them.
use Rattle.std.specs.Prelude.{ℕ, ℤ, zero, suc, pos, negsuc, ◌+◌, ◌*◌, ◌==◌, ◌&&◌, ◌||◌, Bool, true, false, not, List, [], ◌∷◌, length, nat_le, if◌then◌else◌, Option, None, Some, option_map, option_and_then}
use Rattle.std.specs.Char.{is_ascii_hexdigit, digit_value}
use Rattle.std.specs.Int.{is_in_range}
use Rattle.std.specs.List.{list_all}
use Rattle.std.specs.Str.{all_ascii_digits}
use Rattle.std.specs.Str.Parse.{digits_value_after}
use Rattle.etp_outside.specs.Decimal.{read_on}

-- one digit, or several of which the first is not 0
abbrev pub has_no_needless_zero : List ℕ → Bool
has_no_needless_zero [] = false
has_no_needless_zero (d ∷ []) = true
has_no_needless_zero (d ∷ e ∷ ds) = not (d == 48)

-- the number that digits denote when they follow those of a number, if it is at most this great
abbrev pub number_on : ℕ → ℕ → List ℕ → Option ℕ
number_on most n digits = if all_ascii_digits digits && nat_le (read_on n digits) most then Some (read_on n digits) else None

-- a number in decimal, without a sign or an unnecessary zero, if it is at most this great
abbrev pub natural_in : ℕ → List ℕ → Option ℕ
natural_in most text = if has_no_needless_zero text then number_on most 0 text else None

-- a number of at least 1
abbrev pub positive_in : ℕ → List ℕ → Option ℕ
positive_in most text = option_and_then (λ n. if n == 0 then None else Some n) (natural_in most text)

-- the negative number of this size; 0 has no sign
abbrev pub negative : ℕ → Option ℤ
negative zero = None
negative (suc n) = Some (negsuc n)

-- a number of a signed type whose greatest is `most`: a hyphen and a number, or a number
abbrev pub integer_in : ℕ → List ℕ → Option ℤ
integer_in most [] = None
integer_in most (c ∷ cs) = if c == 45 then option_and_then negative (natural_in (most + 1) cs) else option_map pos (natural_in most (c ∷ cs))

-- a hexadecimal digit whose letter is a capital
abbrev pub is_capital_digit : ℕ → Bool
is_capital_digit c = is_in_range 48 57 c || is_in_range 65 70 c

-- the number that such digits denote when they follow those of a number
abbrev pub bits_on : ℕ → List ℕ → Option ℕ
bits_on n digits = if list_all is_capital_digit digits then Some (digits_value_after 16 n digits) else None

-- the number of exactly this many such digits
abbrev pub bits_in : ℕ → List ℕ → Option ℕ
bits_in count text = if length text == count then bits_on 0 text else None

-- the value of a hexadecimal digit, whose letter is of either case
abbrev pub hex_value : ℕ → Option ℕ
hex_value c = if is_ascii_hexdigit c then Some (digit_value c) else None

-- the byte of two such digits
abbrev pub byte_of : Option ℕ → Option ℕ → Option ℕ
byte_of None low = None
byte_of (Some high) None = None
byte_of (Some high) (Some low) = Some (16 * high + low)

-- a byte put before bytes, if both exist
abbrev pub joined : Option ℕ → Option (List ℕ) → Option (List ℕ)
joined None bytes = None
joined (Some byte) bytes = option_map (λ bs. byte ∷ bs) bytes

-- bytes, of two such digits each
abbrev pub bytes_in : List ℕ → Option (List ℕ)
bytes_in [] = Some []
bytes_in (high ∷ []) = None
bytes_in (high ∷ low ∷ rest) = joined (byte_of (hex_value high) (hex_value low)) (bytes_in rest)
