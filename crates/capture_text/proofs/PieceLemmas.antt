-- What is shown of numbers, bytes and texts can be parsed again.
use Rattle.std.specs.Prelude.{nat_le, nat_lt}
use Rattle.std.proofs.Common.{◌≡◌, ◌∙◌, ◌<◌, ◌≤◌, ◌+◌, ◌/◌, ◌%◌, ◌^◌, ◌++◌, ℕ, pos, negsuc, suc, Bool, true, false, List, [], ◌∷◌, length, refl, sym, ap, subst, arith, append_assoc, if◌then◌else◌}
use Rattle.std.specs.Fmt.{decimal}
use Rattle.std.proofs.lemmas.Bool.{le-leb, lt-leb, ltb-true, ltb-false}
use Rattle.std.proofs.lemmas.Bool.Decides.{nat_tests}
use Rattle.std.proofs.lemmas.Int.{ints}
use Rattle.std.proofs.lemmas.Fmt.{decimal_by_steps, decimal_nonempty, decimal_injective}
use Rattle.capture_text.specs.Pieces.{hex_digit, hex_byte, hex, is_shown, shown_byte, escaped}
use Rattle.capture_text.specs.Laws.{is_digit, Ends, AreBytes, OneNumber, OneRunOfBytes, OneQuotedText}

-- each is a digit
abbrev pub AreDigits : List ℕ → Type 0
AreDigits [] = Unit {0}
AreDigits (c ∷ cs) = (is_digit c ≡ true) × AreDigits cs

no_digit : (c d : ℕ) → c ≡ d → is_digit c ≡ false → is_digit d ≡ true → ⊥
no_digit c d e p q = let no : true ≡ false = sym q ∙ subst (λ (n : ℕ). is_digit n ≡ false) e p in cc

-- digits end if no digit follows
pub cut : (a b x y : List ℕ) → AreDigits a → AreDigits b → Ends x → Ends y → a ++ x ≡ b ++ y → (a ≡ b) × (x ≡ y)
cut [] [] x y p q ex ey e = (refl, e)
cut [] (d ∷ b) [] y p q ex ey e = absurd (let no : [] ≡ d ∷ (b ++ y) = e in cc)
cut [] (d ∷ b) (c ∷ x) y p q ex ey e = absurd (let f : c ∷ x ≡ d ∷ (b ++ y) = e in let h : c ≡ d = cc in no_digit c d h ex q.0)
cut (c ∷ a) [] x [] p q ex ey e = absurd (let no : c ∷ (a ++ x) ≡ [] = e in cc)
cut (c ∷ a) [] x (d ∷ y) p q ex ey e = absurd (let f : c ∷ (a ++ x) ≡ d ∷ y = e in let h : d ≡ c = cc in no_digit d c h ey p.0)
cut (c ∷ a) (d ∷ b) x y p q ex ey e =
    let f : c ∷ (a ++ x) ≡ d ∷ (b ++ y) = e in
    let h : c ≡ d = cc in
    let t : a ++ x ≡ b ++ y = cc in
    let r = cut a b x y p.1 q.1 ex ey t in
    let same : a ≡ b = r.0 in
    let whole : c ∷ a ≡ d ∷ b = cc in
    (whole, r.1)

digits_append : (a b : List ℕ) → AreDigits a → AreDigits b → AreDigits (a ++ b)
digits_append [] b p q = q
digits_append (c ∷ a) b p q = (p.0, digits_append a b p.1 q)

decimal_digit_is : (n : ℕ) → n < 10 → is_digit (48 + n) ≡ true
decimal_digit_is n h =
    let low : nat_le 48 (48 + n) ≡ true = le-leb 48 (48 + n) (omega arith) in
    let high : nat_le (48 + n) 57 ≡ true = le-leb (48 + n) 57 (omega arith) in
    rw (low, high) refl

pub decimal_digits : (n : ℕ) → n < 2 ^ 64 → AreDigits (decimal n)
decimal_digits n h =
    decimal_by_steps (λ n ds. AreDigits ds) (λ n h. (decimal_digit_is n h, tt))
    (λ n ds h p. digits_append ds ((48 + n % 10) ∷ []) p (decimal_digit_is (n % 10) (omega arith), tt)) n h

-- existing digits don't begin with anything else
pub begins_with_digit : (a x r : List ℕ) (c : ℕ) → AreDigits a → 0 < length a → is_digit c ≡ false → a ++ x ≡ c ∷ r → ⊥
begins_with_digit [] x r c p some none e = omega arith
begins_with_digit (d ∷ a) x r c p some none e = let f : d ∷ (a ++ x) ≡ c ∷ r = e in let h : c ≡ d = cc in no_digit c d h none p.0

pub number_one : OneNumber
number_one (pos m) (pos n) x y fm fn ex ey e =
    let lm : m < 2 ^ 64 = omega (arith, ints, fm) in
    let ln : n < 2 ^ 64 = omega (arith, ints, fn) in
    let r = cut (decimal m) (decimal n) x y (decimal_digits m lm) (decimal_digits n ln) ex ey e in
    (ap pos (decimal_injective m n lm ln r.0), r.1)
number_one (negsuc m) (negsuc n) x y fm fn ex ey e =
    let lm : suc m < 2 ^ 64 = omega (arith, ints, fm) in
    let ln : suc n < 2 ^ 64 = omega (arith, ints, fn) in
    let f : 45 ∷ (decimal (suc m) ++ x) ≡ 45 ∷ (decimal (suc n) ++ y) = e in
    let t : decimal (suc m) ++ x ≡ decimal (suc n) ++ y = cc in
    let r = cut (decimal (suc m)) (decimal (suc n)) x y (decimal_digits (suc m) lm) (decimal_digits (suc n) ln) ex ey t in
    let s : suc m ≡ suc n = decimal_injective (suc m) (suc n) lm ln r.0 in
    let same : m ≡ n = omega arith in
    (ap negsuc same, r.1)
number_one (pos m) (negsuc n) x y fm fn ex ey e =
    let lm : m < 2 ^ 64 = omega (arith, ints, fm) in
    absurd (begins_with_digit (decimal m) x (decimal (suc n) ++ y) 45 (decimal_digits m lm) (decimal_nonempty m lm) refl e)
number_one (negsuc m) (pos n) x y fm fn ex ey e =
    let ln : n < 2 ^ 64 = omega (arith, ints, fn) in
    absurd (begins_with_digit (decimal n) y (decimal (suc m) ++ x) 45 (decimal_digits n ln) (decimal_nonempty n ln) refl (sym e))

hex_digit_is : (n : ℕ) → n < 16 → is_digit (hex_digit n) ≡ true
hex_digit_is n h =
    elim (nat_lt n 10) as (λ t. nat_lt n 10 ≡ t → is_digit (if t then 48 + n else 55 + n) ≡ true) [
      | true ↦ λ p. decimal_digit_is n (ltb-true n 10 p)
      | false ↦ λ p.
          let low : 10 ≤ n = ltb-false n 10 p in
          let a : nat_le 48 (55 + n) ≡ true = le-leb 48 (55 + n) (omega arith) in
          let b : nat_le (55 + n) 57 ≡ false = lt-leb (55 + n) 57 (omega arith) in
          let c : nat_le 65 (55 + n) ≡ true = le-leb 65 (55 + n) (omega arith) in
          let d : nat_le (55 + n) 70 ≡ true = le-leb (55 + n) 70 (omega arith) in
          rw (a, b, c, d) refl
    ] refl

hex_digit_one : (m n : ℕ) → m < 16 → n < 16 → hex_digit m ≡ hex_digit n → m ≡ n
hex_digit_one m n hm hn e = grind (arith, nat_tests)

byte_one : (m n : ℕ) → m < 256 → n < 256 → hex_digit (m / 16) ≡ hex_digit (n / 16) → hex_digit (m % 16) ≡ hex_digit (n % 16) → m ≡ n
byte_one m n hm hn high low =
    let a : m / 16 ≡ n / 16 = hex_digit_one (m / 16) (n / 16) (omega arith) (omega arith) high in
    let b : m % 16 ≡ n % 16 = hex_digit_one (m % 16) (n % 16) (omega arith) (omega arith) low in
    omega arith

pub hex_digits : (b : List ℕ) → AreBytes b → AreDigits (hex b)
hex_digits [] h = tt
hex_digits (b ∷ bs) h = let small : b < 256 = h.0 in (hex_digit_is (b / 16) (omega arith), (hex_digit_is (b % 16) (omega arith), hex_digits bs h.1))

pub hex_one : (a b : List ℕ) → AreBytes a → AreBytes b → hex a ≡ hex b → a ≡ b
hex_one [] [] p q e = refl
hex_one [] (d ∷ b) p q e = absurd (let no : [] ≡ hex_digit (d / 16) ∷ hex_digit (d % 16) ∷ hex b = e in cc)
hex_one (c ∷ a) [] p q e = absurd (let no : hex_digit (c / 16) ∷ hex_digit (c % 16) ∷ hex a ≡ [] = e in cc)
hex_one (c ∷ a) (d ∷ b) p q e =
    let f : hex_digit (c / 16) ∷ hex_digit (c % 16) ∷ hex a ≡ hex_digit (d / 16) ∷ hex_digit (d % 16) ∷ hex b = e in
    let high : hex_digit (c / 16) ≡ hex_digit (d / 16) = cc in
    let low : hex_digit (c % 16) ≡ hex_digit (d % 16) = cc in
    let rest : hex a ≡ hex b = cc in
    let h : c ≡ d = byte_one c d p.0 q.0 high low in
    let t : a ≡ b = hex_one a b p.1 q.1 rest in
    cc

pub bytes_one : OneRunOfBytes
bytes_one a b x y p q ex ey e =
    let r = cut (hex a) (hex b) x y (hex_digits a p) (hex_digits b q) ex ey e in
    (hex_one a b p q r.0, r.1)

abbrev as_shown : Bool → ℕ → List ℕ
as_shown plain c = if plain then c ∷ [] else 92 ∷ 120 ∷ hex_byte c

not_shown : (c d : ℕ) → c ≡ d → is_shown c ≡ false → is_shown d ≡ true → ⊥
not_shown c d e p q = let no : true ≡ false = sym q ∙ subst (λ (n : ℕ). is_shown n ≡ false) e p in cc

two_marks : (m n : ℕ) → m ≡ n → m ≡ 34 → n ≡ 92 → ⊥
two_marks m n e p q = omega arith

not_quote : (p : Bool) (d : ℕ) (t r : List ℕ) → is_shown d ≡ p → 34 ∷ r ≡ as_shown p d ++ t → ⊥
not_quote true d t r p e = let f : 34 ∷ r ≡ d ∷ t = e in let h : 34 ≡ d = cc in not_shown 34 d h refl p
not_quote false d t r p e = let f : 34 ∷ r ≡ 92 ∷ 120 ∷ hex_digit (d / 16) ∷ hex_digit (d % 16) ∷ t = e in two_marks 34 92 (cc) refl refl

shown_one : (p q : Bool) (c d : ℕ) (s t : List ℕ) → c < 256 → d < 256 → is_shown c ≡ p → is_shown d ≡ q → as_shown p c ++ s ≡ as_shown q d ++ t → (c ≡ d) × (s ≡ t)
shown_one true true c d s t hc hd p q e = let f : c ∷ s ≡ d ∷ t = e in let h : c ≡ d = cc in let r : s ≡ t = cc in (h, r)
shown_one true false c d s t hc hd p q e =
    let f : c ∷ s ≡ 92 ∷ 120 ∷ hex_digit (d / 16) ∷ hex_digit (d % 16) ∷ t = e in
    let h : 92 ≡ c = cc in
    absurd (not_shown 92 c h refl p)
shown_one false true c d s t hc hd p q e =
    let f : 92 ∷ 120 ∷ hex_digit (c / 16) ∷ hex_digit (c % 16) ∷ s ≡ d ∷ t = e in
    let h : 92 ≡ d = cc in
    absurd (not_shown 92 d h refl q)
shown_one false false c d s t hc hd p q e =
    let f : 92 ∷ 120 ∷ hex_digit (c / 16) ∷ hex_digit (c % 16) ∷ s ≡ 92 ∷ 120 ∷ hex_digit (d / 16) ∷ hex_digit (d % 16) ∷ t = e in
    let high : hex_digit (c / 16) ≡ hex_digit (d / 16) = cc in
    let low : hex_digit (c % 16) ≡ hex_digit (d % 16) = cc in
    let r : s ≡ t = cc in
    (byte_one c d hc hd high low, r)

text_one : (a b x y : List ℕ) → AreBytes a → AreBytes b → escaped a ++ 34 ∷ x ≡ escaped b ++ 34 ∷ y → (a ≡ b) × (x ≡ y)
text_one [] [] x y p q e = let f : 34 ∷ x ≡ 34 ∷ y = e in let r : x ≡ y = cc in (refl, r)
text_one [] (d ∷ b) x y p q e =
    let f : 34 ∷ x ≡ shown_byte d ++ (escaped b ++ 34 ∷ y) = e ∙ append_assoc (shown_byte d) (escaped b) (34 ∷ y) in
    absurd (not_quote (is_shown d) d (escaped b ++ 34 ∷ y) x refl f)
text_one (c ∷ a) [] x y p q e =
    let f : 34 ∷ y ≡ shown_byte c ++ (escaped a ++ 34 ∷ x) = sym e ∙ append_assoc (shown_byte c) (escaped a) (34 ∷ x) in
    absurd (not_quote (is_shown c) c (escaped a ++ 34 ∷ x) y refl f)
text_one (c ∷ a) (d ∷ b) x y p q e =
    let f : shown_byte c ++ (escaped a ++ 34 ∷ x) ≡ shown_byte d ++ (escaped b ++ 34 ∷ y) =
    sym (append_assoc (shown_byte c) (escaped a) (34 ∷ x)) ∙ e ∙ append_assoc (shown_byte d) (escaped b) (34 ∷ y) in
    let r = shown_one (is_shown c) (is_shown d) c d (escaped a ++ 34 ∷ x) (escaped b ++ 34 ∷ y) p.0 q.0 refl refl f in
    let h : c ≡ d = r.0 in
    let s = text_one a b x y p.1 q.1 r.1 in
    let t : a ≡ b = s.0 in
    let whole : c ∷ a ≡ d ∷ b = cc in
    (whole, s.1)

pub quoted_one : OneQuotedText
quoted_one a b x y p q e =
    let f : 34 ∷ ((escaped a ++ 34 ∷ []) ++ x) ≡ 34 ∷ ((escaped b ++ 34 ∷ []) ++ y) = e in
    let g : (escaped a ++ 34 ∷ []) ++ x ≡ (escaped b ++ 34 ∷ []) ++ y = cc in
    text_one a b x y p q (sym (append_assoc (escaped a) (34 ∷ []) x) ∙ g ∙ append_assoc (escaped b) (34 ∷ []) y)
