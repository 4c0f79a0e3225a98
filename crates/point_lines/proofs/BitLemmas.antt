-- Numbers of hexadecimal digits, and bytes of pairs of them.
use Rattle.std.proofs.Common.{◌≡◌, ◌<◌, ◌≤◌, ◌+◌, ◌*◌, ◌^◌, ◌-◌, ◌/◌, ◌%◌, ℕ, List, [], ◌∷◌, ◌++◌, length, get_or, take, drop, IfSome, Option, None, Some, refl, ap, sym, ◌∙◌, arith, lit<, append_assoc}
use Rattle.std.specs.Option.{option_map}
use Rattle.std.proofs.Math.Nat.{mul-le-mul_left, one-le-pow}
use Rattle.std.proofs.lemmas.Grind.{pow_more}
use Rattle.std.proofs.lemmas.List.{drop_more, length-drop, length-take-le}
use Rattle.point_lines.specs.Numerals.{hex_value, byte_of, joined, bytes_in}

-- a further digit fits in 64 bits
pub bits_room : (bits n k : ℕ) → n ≡ k + 1 → (bits + 1) * 16 ^ n ≤ 2 ^ 64 → bits * 16 + 16 ≤ 2 ^ 64
bits_room bits n k e h =
    let some : 1 ≤ 16 ^ k = one-le-pow k 16 (lit< tt) in
    let grown : ((bits + 1) * 16) * 1 ≤ ((bits + 1) * 16) * 16 ^ k = mul-le-mul_left ((bits + 1) * 16) some in
    let power : 16 ^ n ≡ 16 ^ k * 16 = ap (λ m. 16 ^ m) e ∙ pow_more 16 k in
    let whole : (bits + 1) * (16 ^ k * 16) ≤ 2 ^ 64 = rw (← power) h in
    omega (arith, grown, whole)

-- and leaves as much room as there was
pub bits_step : (bits digit n k most : ℕ) → digit < 16 → n ≡ k + 1 → (bits + 1) * 16 ^ n ≤ most → (bits * 16 + digit + 1) * 16 ^ k ≤ most
bits_step bits digit n k most small e h =
    let grown : 16 ^ k * (bits * 16 + digit + 1) ≤ 16 ^ k * ((bits + 1) * 16) = mul-le-mul_left (16 ^ k) (omega arith) in
    let power : 16 ^ n ≡ 16 ^ k * 16 = ap (λ m. 16 ^ m) e ∙ pow_more 16 k in
    let whole : (bits + 1) * (16 ^ k * 16) ≤ most = rw (← power) h in
    omega (arith, grown, whole)

-- without further digits
pub bits_end : (bits n : ℕ) → n ≡ 0 → bits < (bits + 1) * 16 ^ n
bits_end bits n e = rw e (omega arith)

-- from no digits on
pub bits_whole : (count : ℕ) → (0 + 1) * 16 ^ count ≡ 16 ^ count
bits_whole count = omega arith

-- ---- pairs of digits

prefixed_joined : (made bs : List ℕ) (byte : ℕ) (o : Option (List ℕ)) → option_map (λ bs. made ++ bs) (joined (Some byte) o) ≡ option_map (λ bs. (made ++ byte ∷ []) ++ bs) o
prefixed_joined made bs byte None = refl
prefixed_joined made bs byte (Some rest) = ap Some (sym (append_assoc made (byte ∷ []) rest))

-- what is left from a pair on
pair_at : (text : List ℕ) (i : ℕ) → 2 * i + 1 < length text → drop (2 * i) text ≡ get_or text (2 * i) 0 ∷ (get_or text (2 * i + 1) 0 ∷ drop (2 * (i + 1)) text)
pair_at text i h =
    let next : 2 * i + 1 + 1 ≡ 2 * (i + 1) = omega arith in
    drop_more text (2 * i) 0 (omega arith)
    ∙ ap (λ l. get_or text (2 * i) 0 ∷ l) (drop_more text (2 * i + 1) 0 h ∙ ap (λ n. get_or text (2 * i + 1) 0 ∷ drop n text) next)

-- one more pair was read
pub pair_step : (text made now : List ℕ) (i byte : ℕ) (whole : Option (List ℕ)) → 2 * i + 1 < length text → byte_of (hex_value (get_or text (2 * i) 0)) (hex_value (get_or text (2 * i + 1) 0)) ≡ Some byte → now ≡ made ++ byte ∷ [] → option_map (λ bs. made ++ bs) (bytes_in (drop (2 * i) text)) ≡ whole → option_map (λ bs. now ++ bs) (bytes_in (drop (2 * (i + 1)) text)) ≡ whole
pair_step text made now i byte whole within is_byte is_now so_far =
    let rest = bytes_in (drop (2 * (i + 1)) text) in
    ap (λ (l : List ℕ). option_map (λ bs. l ++ bs) rest) is_now ∙ sym (prefixed_joined made [] byte rest)
    ∙ ap (λ b. option_map (λ bs. made ++ bs) (joined b rest)) (sym is_byte)
    ∙ ap (λ l. option_map (λ bs. made ++ bs) (bytes_in l)) (sym (pair_at text i within)) ∙ so_far

end_odd : (l made : List ℕ) → length l ≡ 1 → None ≡ option_map (λ bs. made ++ bs) (bytes_in l)
end_odd [] made h = absurd (omega arith)
end_odd (b ∷ []) made h = refl
end_odd (b ∷ c ∷ bs) made h = absurd (omega arith)

-- all pairs were read, and one digit is left
pub pairs_odd : (text made : List ℕ) (i : ℕ) (whole : Option (List ℕ)) → i ≡ length text / 2 → length text % 2 ≡ 1 → option_map (λ bs. made ++ bs) (bytes_in (drop (2 * i) text)) ≡ whole → None ≡ whole
pairs_odd text made i whole is_i odd so_far =
    let left : length (drop (2 * i) text) ≡ length text - 2 * i = length-drop (2 * i) text in
    let one : length text - 2 * i ≡ 1 = omega arith in
    end_odd (drop (2 * i) text) made (left ∙ one) ∙ so_far

-- the digits after the first are one fewer
pub tail_length : (digits : List ℕ) → 1 ≤ length digits → length digits ≡ length (take (length digits - 1) (drop 1 digits)) + 1
tail_length digits some =
    let dropped : length (drop 1 digits) ≡ length digits - 1 = length-drop 1 digits in
    let taken : length (take (length digits - 1) (drop 1 digits)) ≡ length digits - 1 = length-take-le (length digits - 1) (drop 1 digits) (omega arith) in
    omega arith

pub some_below : (r : Option ℕ) (a b : ℕ) → a ≤ b → IfSome r (λ n. n < a) → IfSome r (λ n. n < b)
some_below None a b h p = tt
some_below (Some n) a b h p = omega arith
