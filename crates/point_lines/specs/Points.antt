-- The points written in lines: an index, a space, and a value of the channel's kind.
use Rattle.std.specs.Prelude.{ℕ, ℤ, ◌-◌, ◌^◌, ◌==◌, Bool, true, false, List, codes, if◌then◌else◌, Option, None, Some, option_map}
use Rattle.std.specs.Str.{bytes_eq, is_utf8}
use Rattle.etp_values.specs.Uri.{parted}
use Rattle.etp_values.specs.declared.point.Point.{Point}
use Rattle.etp_values.specs.declared.data.DataValue.{DataValue}
use Rattle.etp_values.specs.declared.data.DataValue.TheVariants.{Boolean, Int, Long, Float, Double, String, Bytes}
use Rattle.point_lines.specs.Numerals.{integer_in, bits_in, bytes_in}

-- a truth value by its name
abbrev pub truth_in : List ℕ → Option Bool
truth_in text = if bytes_eq text (codes "true") then Some true else (if bytes_eq text (codes "false") then Some false else None)

-- a text, which is UTF-8
abbrev pub text_in : List ℕ → Option (List ℕ)
text_in text = if is_utf8 text then Some text else None

-- a 64-bit number
abbrev pub long_in : List ℕ → Option ℤ
long_in text = integer_in (2 ^ 63 - 1) text

-- a value of the kind at this index among the kinds of channels: 5 a truth value, 6 and 7 numbers of 32 and 64 bits, 8 and 9 the bits of a
-- float of 32 and of 64 bits, 10 a text, 11 bytes. No other kind has a value that a line denotes
abbrev pub value_in : ℕ → List ℕ → Option DataValue
value_in kind text =
    if kind == 5 then option_map Boolean (truth_in text)
    else (if kind == 6 then option_map Int (integer_in (2 ^ 31 - 1) text)
    else (if kind == 7 then option_map Long (long_in text)
    else (if kind == 8 then option_map (λ n. Float (record { 0 = n })) (bits_in 8 text)
    else (if kind == 9 then option_map (λ n. Double (record { 0 = n })) (bits_in 16 text)
    else (if kind == 10 then option_map String (text_in text)
    else (if kind == 11 then option_map Bytes (bytes_in text)
    else None))))))

abbrev pub point_at : Option ℤ → Option DataValue → Option Point
point_at None value = None
point_at (Some index) value = option_map (λ v. record { index = index; value = v }) value

abbrev pub point_of : ℕ → Option (List ℕ × List ℕ) → Option Point
point_of kind None = None
point_of kind (Some parts) = point_at (long_in parts.0) (value_in kind parts.1)

-- the point of a line for a channel of this kind: its index comes before the first space, and its value after it
abbrev pub point_in : ℕ → List ℕ → Option Point
point_in kind line = point_of kind (parted 32 line)
