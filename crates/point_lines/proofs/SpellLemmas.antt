-- Points that are written in lines, and read again.
use Rattle.std.specs.Prelude.{nat_lt}
use Rattle.std.proofs.Common.{◌≡◌, ◌<◌, ◌≤◌, ◌+◌, ◌-◌, ◌*◌, ◌^◌, ◌/◌, ◌%◌, ◌==◌, ◌&&◌, ◌||◌, ℕ, ℤ, zero, suc, pos, negsuc, Bool, true, false, not, nat_le, List, [], ◌∷◌, ◌++◌, length, get_or, Option, None, Some, if◌then◌else◌, refl, sym, ap, subst, ◌∙◌, arith, add-one, append-nil, append_assoc}
use Rattle.std.specs.Prelude.{FitsSigned}
use Rattle.std.specs.Char.{digit_value, is_ascii_digit, is_ascii_hexdigit}
use Rattle.std.specs.Fmt.{decimal, signed_decimal}
use Rattle.std.specs.Int.{is_in_range, w32, w64}
use Rattle.std.specs.List.{AllByRecursion, list_all}
use Rattle.std.specs.Option.{is_some, option_and_then, option_map}
use Rattle.std.specs.Str.{IsUtf8, all_ascii_digits}
use Rattle.std.specs.Str.Parse.{digits_value_after}
use Rattle.std.proofs.lemmas.Bool.{and_parts, eq-eqb, eqb-true, false≢true, le-leb, leb-true, lt-leb}
use Rattle.std.proofs.lemmas.Bool.Decides.{nat_tests}
use Rattle.std.proofs.lemmas.Grind.{pow_more}
use Rattle.std.proofs.lemmas.Int.{ints}
use Rattle.std.proofs.lemmas.List.{length-append}
use Rattle.std.proofs.lemmas.List.Folds.{list_all-append}
use Rattle.std.proofs.lemmas.Option.{none-some, same_Some}
use Rattle.etp_outside.specs.Decimal.{read_on}
use Rattle.etp_outside.proofs.DecimalLemmas.{decimal_IsDecimal}
use Rattle.etp_values.specs.Uri.{parted, put_before}
use Rattle.etp_values.specs.declared.data.DataValue.{DataValue}
use Rattle.etp_values.specs.declared.data.DataValue.TheVariants.{Boolean, Int, Long, Float, Double, String, Bytes}
use Rattle.etp_values.specs.declared.point.Point.{Point}
use Rattle.point_lines.specs.Lines.{lines_in}
use Rattle.point_lines.specs.Numerals.{bits_in, bits_on, byte_of, bytes_in, has_no_needless_zero, hex_value, integer_in, is_capital_digit, joined, natural_in, negative, number_on}
use Rattle.point_lines.specs.Points.{long_in, point_at, point_in, point_of, text_in, value_in}
use Rattle.point_lines.specs.Spelling.{Denote, IsPoint, IsValue, LinesAreRead, LinesStand, bytes_text, hex_digit, hex_text, if_line, is_line, is_of_kind, line_of, lines_of, point_text, text_of, truth_text, with_line}
use Rattle.point_lines.proofs.LineLemmas.{lines_of_parts}
use Rattle.point_lines.proofs.MarkLemmas.{behind, parted_join}
use Rattle.point_lines.proofs.TextLemmas.{text_read}

-- ---- decimal numbers

needless : (ds : List ℕ) → 0 < length ds → (get_or ds 0 0 ≡ 48 → length ds ≡ 1) → has_no_needless_zero ds ≡ true
needless [] some first = absurd (omega (arith, some))
needless (d ∷ []) some first = refl
needless (d ∷ e ∷ ds) some first = by (d == 48) refl
  where
    by : (b : Bool) → (d == 48) ≡ b → not b ≡ true
    by true is = let one : length (d ∷ e ∷ ds) ≡ 1 = first (eqb-true d 48 is) in absurd (omega (arith, one))
    by false is = refl

natural_read : (most n : ℕ) → n ≤ most → n < 2 ^ 64 → natural_in most (decimal n) ≡ Some n
natural_read most n le h =
    let d = decimal_IsDecimal n h in
    ap (λ b. if b then number_on most 0 (decimal n) else None) (needless (decimal n) d.some d.first)
    ∙ ap (λ b. if b && nat_le (read_on 0 (decimal n)) most then Some (read_on 0 (decimal n)) else None) d.digits
    ∙ ap (λ k. if nat_le k most then Some k else None) d.value
    ∙ ap (λ b. if b then Some n else None) (le-leb n most le)

-- a digit is no mark below it
below_digit : (mark c : ℕ) → mark < 48 → is_ascii_digit c ≡ true → (c == mark) ≡ false
below_digit mark c lt digit = grind (arith, nat_tests, lt, digit)

digits_integer : (most : ℕ) (ds : List ℕ) → 0 < length ds → all_ascii_digits ds ≡ true → integer_in most ds ≡ option_map pos (natural_in most ds)
digits_integer most [] some digits = absurd (omega (arith, some))
digits_integer most (c ∷ cs) some digits =
    ap (λ b. if b then option_and_then negative (natural_in (most + 1) cs) else option_map pos (natural_in most (c ∷ cs)))
    (below_digit 45 c (omega arith) (and_parts (is_ascii_digit c) (all_ascii_digits cs) digits).0)

signed_read : (most : ℕ) (z : ℤ) → most < 2 ^ 63 → ((n : ℕ) → z ≡ pos n → n ≤ most) → ((n : ℕ) → z ≡ negsuc n → n ≤ most) → integer_in most (signed_decimal z) ≡ Some z
signed_read most (pos n) room up down =
    let le : n ≤ most = up n refl in
    let h : n < 2 ^ 64 = omega (arith, le, room) in
    let d = decimal_IsDecimal n h in
    digits_integer most (decimal n) d.some d.digits ∙ ap (option_map pos) (natural_read most n le h)
signed_read most (negsuc n) room up down =
    let le : n ≤ most = down n refl in
    ap (option_and_then negative) (natural_read (most + 1) (suc n) (omega (arith, le)) (omega (arith, le, room)))

long_read : (z : ℤ) → FitsSigned w64 z → long_in (signed_decimal z) ≡ Some z
long_read (pos n) fits = signed_read (2 ^ 63 - 1) (pos n) (omega arith) (λ m is. let le : n ≤ 2 ^ 63 - 1 = omega (arith, ints, fits) in subst (λ k. k ≤ 2 ^ 63 - 1) (pos_is n m is) le) (λ m is. absurd (not_neg n m is))
  where
    pos_is : (n m : ℕ) → pos n ≡ pos m → n ≡ m
    pos_is n m is = cc

    not_neg : (n m : ℕ) → pos n ≡ negsuc m → ⊥
    not_neg n m is = cc
long_read (negsuc n) fits = signed_read (2 ^ 63 - 1) (negsuc n) (omega arith) (λ m is. absurd (not_pos n m is)) (λ m is. let le : n ≤ 2 ^ 63 - 1 = omega (arith, ints, fits) in subst (λ k. k ≤ 2 ^ 63 - 1) (neg_is n m is) le)
  where
    neg_is : (n m : ℕ) → negsuc n ≡ negsuc m → n ≡ m
    neg_is n m is = cc

    not_pos : (n m : ℕ) → negsuc n ≡ pos m → ⊥
    not_pos n m is = cc

int_read : (z : ℤ) → FitsSigned w32 z → integer_in (2 ^ 31 - 1) (signed_decimal z) ≡ Some z
int_read (pos n) fits = signed_read (2 ^ 31 - 1) (pos n) (omega arith) (λ m is. let le : n ≤ 2 ^ 31 - 1 = omega (arith, ints, fits) in subst (λ k. k ≤ 2 ^ 31 - 1) (pos_is n m is) le) (λ m is. absurd (not_neg n m is))
  where
    pos_is : (n m : ℕ) → pos n ≡ pos m → n ≡ m
    pos_is n m is = cc

    not_neg : (n m : ℕ) → pos n ≡ negsuc m → ⊥
    not_neg n m is = cc
int_read (negsuc n) fits = signed_read (2 ^ 31 - 1) (negsuc n) (omega arith) (λ m is. absurd (not_pos n m is)) (λ m is. let le : n ≤ 2 ^ 31 - 1 = omega (arith, ints, fits) in subst (λ k. k ≤ 2 ^ 31 - 1) (neg_is n m is) le)
  where
    neg_is : (n m : ℕ) → negsuc n ≡ negsuc m → n ≡ m
    neg_is n m is = cc

    not_pos : (n m : ℕ) → negsuc n ≡ pos m → ⊥
    not_pos n m is = cc

-- ---- hexadecimal digits

capital : (d : ℕ) → d < 16 → is_capital_digit (hex_digit d) ≡ true
capital d h = grind (arith, nat_tests, h)

valued : (d : ℕ) → d < 16 → digit_value (hex_digit d) ≡ d
valued d h = grind (arith, nat_tests, h)

hex_valued : (d : ℕ) → d < 16 → hex_value (hex_digit d) ≡ Some d
hex_valued d h =
    let is : is_ascii_hexdigit (hex_digit d) ≡ true = grind (arith, nat_tests, h) in
    ap (λ b. if b then Some (digit_value (hex_digit d)) else None) is ∙ ap Some (valued d h)

hex_length : (count n : ℕ) → length (hex_text count n) ≡ count
hex_length zero n = refl
hex_length (suc count) n = let one = hex_length count (n / 16) in length-append (hex_text count (n / 16)) (hex_digit (n % 16) ∷ []) ∙ omega (arith, one)

hex_capital : (count n : ℕ) → list_all is_capital_digit (hex_text count n) ≡ true
hex_capital zero n = refl
hex_capital (suc count) n =
    list_all-append is_capital_digit (hex_text count (n / 16)) (hex_digit (n % 16) ∷ [])
    ∙ (λ j. hex_capital count (n / 16) j && (capital (n % 16) (omega arith) j && true))

value_last : (k : ℕ) (ds : List ℕ) (d : ℕ) → digits_value_after 16 k (ds ++ d ∷ []) ≡ digits_value_after 16 k ds * 16 + digit_value d
value_last k [] d = refl
value_last k (c ∷ ds) d = value_last (k * 16 + digit_value c) ds d

hex_read : (count n : ℕ) → n < 16 ^ count → digits_value_after 16 0 (hex_text count n) ≡ n
hex_read zero n h = let none : n ≡ 0 = omega (arith, h) in sym none
hex_read (suc count) n h =
    let power : 16 ^ (count + 1) ≡ 16 ^ count * 16 = pow_more 16 count in
    let small : n < 16 ^ count * 16 = subst (λ p. n < p) (ap (λ k. 16 ^ k) (sym (add-one count)) ∙ power) h in
    let front : digits_value_after 16 0 (hex_text count (n / 16)) ≡ n / 16 = hex_read count (n / 16) (omega (arith, small)) in
    value_last 0 (hex_text count (n / 16)) (hex_digit (n % 16))
    ∙ (λ j. front j * 16 + valued (n % 16) (omega arith) j)
    ∙ omega arith

bits_read : (count n : ℕ) → n < 16 ^ count → bits_in count (hex_text count n) ≡ Some n
bits_read count n h =
    ap (λ b. if b then bits_on 0 (hex_text count n) else None) (eq-eqb (length (hex_text count n)) count (hex_length count n))
    ∙ ap (λ b. if b then Some (digits_value_after 16 0 (hex_text count n)) else None) (hex_capital count n)
    ∙ ap Some (hex_read count n h)

bytes_read : (bs : List ℕ) → AllByRecursion (λ b. b < 256) bs → bytes_in (bytes_text bs) ≡ Some bs
bytes_read [] all = refl
bytes_read (b ∷ bs) all =
    let small : b < 256 = all.0 in
    let whole : 16 * (b / 16) + b % 16 ≡ b = omega arith in
    (λ j. joined (byte_of (hex_valued (b / 16) (omega (arith, small)) j) (hex_valued (b % 16) (omega arith) j)) (bytes_read bs all.1 j))
    ∙ ap (λ k. Some (k ∷ bs)) whole

-- ---- values

truth_read : (b : Bool) → value_in 5 (truth_text b) ≡ Some (Boolean b)
truth_read true = refl
truth_read false = refl

at_kind : (kind k : ℕ) (v : DataValue) → (kind == k) ≡ true → value_in k (text_of v) ≡ Some v → value_in kind (text_of v) ≡ Some v
at_kind kind k v is read = subst (λ n. value_in n (text_of v) ≡ Some v) (sym (eqb-true kind k is)) read

value_read : (kind : ℕ) (v : DataValue) → IsValue v → is_of_kind kind v ≡ true → value_in kind (text_of v) ≡ Some v
value_read kind (Boolean b) fits is = at_kind kind 5 (Boolean b) is (truth_read b)
value_read kind (Int z) fits is = at_kind kind 6 (Int z) is (ap (option_map Int) (int_read z fits))
value_read kind (Long z) fits is = at_kind kind 7 (Long z) is (ap (option_map Long) (long_read z fits))
value_read kind (Float n) fits is = at_kind kind 8 (Float n) is (ap (option_map (λ n. Float (record { 0 = n }))) (bits_read 8 n.0 (omega (arith, fits))))
value_read kind (Double n) fits is = at_kind kind 9 (Double n) is (ap (option_map (λ n. Double (record { 0 = n }))) (bits_read 16 n.0 (omega (arith, fits))))
value_read kind (String t) fits is = at_kind kind 10 (String t) is (ap (option_map String) (sym (text_read t t fits refl)))
value_read kind (Bytes bs) fits is = at_kind kind 11 (Bytes bs) is (ap (option_map Bytes) (bytes_read bs fits))
value_read kind other fits is = absurd (false≢true is)

-- ---- points

no_mark : (ds : List ℕ) → all_ascii_digits ds ≡ true → parted 32 ds ≡ None
no_mark [] digits = refl
no_mark (c ∷ cs) digits =
    let both = and_parts (is_ascii_digit c) (all_ascii_digits cs) digits in
    ap (λ b. if b then Some ([], cs) else option_map (put_before c) (parted 32 cs)) (below_digit 32 c (omega arith) both.0)
    ∙ ap (option_map (put_before c)) (no_mark cs both.1)

index_unmarked : (z : ℤ) → FitsSigned w64 z → parted 32 (signed_decimal z) ≡ None
index_unmarked (pos n) fits = no_mark (decimal n) (decimal_IsDecimal n (omega (arith, ints, fits))).digits
index_unmarked (negsuc n) fits = ap (option_map (put_before 45)) (no_mark (decimal (suc n)) (decimal_IsDecimal (suc n) (omega (arith, ints, fits))).digits)

point_read : (kind : ℕ) (p : Point) → IsPoint p → is_of_kind kind p.value ≡ true → point_in kind (point_text p) ≡ Some p
point_read kind p fits is =
    let index = signed_decimal p.index in
    ap (point_of kind) (parted_join 32 index (32 ∷ text_of p.value) (index_unmarked p.index fits.0) ∙ ap (λ l. Some (l, text_of p.value)) (append-nil index))
    ∙ (λ j. point_at (long_read p.index fits.0 j) (value_read kind p.value fits.1 is j))

-- what a line of a point is
record IsLineOf (kind : ℕ) (p : Point) (line : List ℕ) : Type 0 where
  line_is : line ≡ point_text p
  kind_is : is_of_kind kind p.value ≡ true
  one : is_line line ≡ true

line_parts : (kind : ℕ) (p : Point) (line : List ℕ) → line_of kind p ≡ Some line → IsLineOf kind p line
line_parts kind p line = by (is_of_kind kind p.value) (is_line (point_text p)) refl refl
  where
    by : (a b : Bool) → is_of_kind kind p.value ≡ a → is_line (point_text p) ≡ b → (if a then (if b then Some (point_text p) else None) else None) ≡ Some line → IsLineOf kind p line
    by true true a b is = let e : point_text p ≡ line = same_Some (point_text p) line is in record { line_is = sym e; kind_is = a; one = subst (λ l. is_line l ≡ true) e b }
    by true false a b is = absurd (none-some line is)
    by false true a b is = absurd (none-some line is)
    by false false a b is = absurd (none-some line is)

pub lines_are_read : LinesAreRead
lines_are_read kind p line fits is =
    let l = line_parts kind p line is in
    ap (point_in kind) l.line_is ∙ point_read kind p fits l.kind_is

-- ---- several lines

unmarked : (o : Option (List ℕ × List ℕ)) → not (is_some o) ≡ true → o ≡ None
unmarked None h = refl
unmarked (Some p) h = absurd (false≢true h)

line_first : (line later : List ℕ) → is_line line ≡ true → lines_in (line ++ 10 ∷ later) ≡ line ∷ lines_in later
line_first line later one =
    let clear : parted 10 line ≡ None = unmarked (parted 10 line) (and_parts (not (is_some (parted 10 line))) (nat_le (length line) 65536) one).0 in
    lines_of_parts (line ++ 10 ∷ later) (line, later) (parted_join 10 line (10 ∷ later) clear ∙ ap (λ l. Some (l, later)) (append-nil line))

line_short : (line : List ℕ) → is_line line ≡ true → length line ≤ 65536
line_short line one = leb-true (length line) 65536 (and_parts (not (is_some (parted 10 line))) (nat_le (length line) 65536) one).1

pub lines_stand : LinesStand
lines_stand kind [] text fits is = subst (λ t. Denote kind (lines_in t) []) (same_Some [] text is) tt
lines_stand kind (p ∷ ps) text fits is = by (line_of kind p) (lines_of kind ps) refl refl is (λ later so. lines_stand kind ps later fits.1 so)
  where
    by : (a b : Option (List ℕ)) → line_of kind p ≡ a → lines_of kind ps ≡ b → with_line a b ≡ Some text → ((later : List ℕ) → lines_of kind ps ≡ Some later → Denote kind (lines_in later) ps) → Denote kind (lines_in text) (p ∷ ps)
    by None b first more so rest = absurd (none-some text so)
    by (Some line) None first more so rest = absurd (none-some text so)
    by (Some line) (Some later) first more so rest =
        let l = line_parts kind p line first in
        subst (λ t. Denote kind (lines_in t) (p ∷ ps)) (same_Some (line ++ 10 ∷ later) text so)
        (subst (λ ls. Denote kind ls (p ∷ ps)) (sym (line_first line later l.one))
        (line_short line l.one, lines_are_read kind p line fits.0 first, rest later more))

-- ---- writing them

-- no digit, and one more
pub hex_none : (count n : ℕ) → count ≡ 0 → hex_text count n ≡ []
hex_none count n is = ap (λ k. hex_text k n) is

pub hex_more : (count n : ℕ) → (count ≡ 0 → ⊥) → hex_text count n ≡ hex_text (count - 1) (n / 16) ++ hex_digit (n % 16) ∷ []
hex_more zero n some = absurd (some refl)
hex_more (suc k) n some = let less : k ≡ suc k - 1 = omega arith in ap (λ j. hex_text j (n / 16) ++ hex_digit (n % 16) ∷ []) less

-- the last digit is pushed behind the others
pub hex_pushed : (into mid now : List ℕ) (count n digit : ℕ) → (count ≡ 0 → ⊥) → mid ≡ into ++ hex_text (count - 1) (n / 16) → now ≡ mid ++ digit ∷ [] → digit ≡ hex_digit (n % 16) → now ≡ into ++ hex_text count n
hex_pushed into mid now count n digit some mid_is now_is digit_is =
    now_is
    ∙ (λ j. mid_is j ++ digit_is j ∷ [])
    ∙ append_assoc into (hex_text (count - 1) (n / 16)) (hex_digit (n % 16) ∷ [])
    ∙ ap (λ l. into ++ l) (sym (hex_more count n some))
