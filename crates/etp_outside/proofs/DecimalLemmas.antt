-- The text of a number is its only numeral; for the crates above, further digits.
use Rattle.std.proofs.Common.{◌≡◌, ◌<◌, ◌≤◌, ◌+◌, ◌-◌, ◌*◌, ◌^◌, ◌∙◌, ℕ, zero, suc, List, [], ◌∷◌, length, get_or, true, rules, arith, sym, ap}
use Rattle.std.specs.Fmt.{decimal}
use Rattle.std.specs.Str.{all_ascii_digits}
use Rattle.std.proofs.lemmas.Str.Parse.{IsNumeralModel, numerals_by_fold}
use Rattle.std.proofs.lemmas.Fmt.{digits_decimal, digits_value-decimal, decimal_nonempty, first_decimal, decimal_digit, decimal-digits_value}
use Rattle.etp_outside.specs.Decimal.{IsDecimal, read_on}

own : IsNumeralModel (λ ds. all_ascii_digits ds ≡ true) (read_on 0)
own = numerals_by_fold _ (search rules) read_on (search rules)

-- no text of a number but that of 0 begins with a zero
first : (n : ℕ) → n < 2 ^ 64 → get_or (decimal n) 0 0 ≡ 48 → length (decimal n) ≡ 1
first zero h e = ap length (decimal_digit 0 (omega arith))
first (suc n) h e = absurd (omega (arith, first_decimal (suc n) (omega arith) h))

pub decimal_IsDecimal : (n : ℕ) → n < 2 ^ 64 → IsDecimal n (decimal n)
decimal_IsDecimal n h = record { digits = digits_decimal own n h; some = decimal_nonempty n h; value = digits_value-decimal own n h; first = first n h }

pub IsDecimal_decimal : (n : ℕ) → n < 2 ^ 64 → (ds : List ℕ) → IsDecimal n ds → ds ≡ decimal n
IsDecimal_decimal n h ds d =
    let value : read_on 0 ds ≡ n = d.value in
    let below : read_on 0 ds < 2 ^ 64 = omega arith in
    sym (decimal-digits_value own ds d.digits d.some d.first below) ∙ ap decimal value

-- further digits never make a number smaller
pub read_on_grows : (n : ℕ) (digits : List ℕ) → n ≤ read_on n digits
read_on_grows n [] = omega arith
read_on_grows n (d ∷ ds) = let more = read_on_grows (10 * n + (d - 48)) ds in omega (arith, more)
