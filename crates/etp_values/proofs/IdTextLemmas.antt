-- Reading and writing the hyphenated text of an identifier.
use Rattle.std.proofs.Common.{◌≡◌, ◌≢◌, ◌<◌, ◌+◌, ◌*◌, ℕ, List, length, get_or, Bool, true, false, ◌&&◌, nat_eq, Option, Some, None, unwrap_or, if◌then◌else◌, refl, sym, ap, ◌∙◌, inl, inr, arith, true≢false, slice_index, ◌==◌, ◌||◌, ◌⊎◌}
use Rattle.std.proofs.lemmas.Bool.{cases_Bool, eqb-true, and_parts}
use Rattle.std.proofs.lemmas.Bool.Decides.{nat_tests}
use Rattle.std.specs.List.{list_all}
use Rattle.uuid.specs.Text.{parsed, parsed_hyphenated, parsed_simple, hyphenated_text, lower, digits_of, has_hyphens, is_hex_digit, byte_of_digits, by_index, value_of, hyphen_place, digit_place, is_hyphen_place}
use Rattle.uuid.proofs.TextLemmas.{by_index_length, by_index_at}
use Rattle.std.proofs.lemmas.List.Folds.{list_all_at}
use Rattle.uuid.proofs.RoundTrips.{parses_hyphenated_text}
use Rattle.etp_values.specs.IdText.{IsId, id_of, id_text}

at_36 : (s : List ℕ) → length s ≡ 36 → parsed s ≡ parsed_hyphenated s
at_36 s len = rw len refl

not_36 : (s : List ℕ) → length s ≢ 36 → parsed_hyphenated s ≡ None
not_36 s len = let other : nat_eq (length s) 36 ≡ false = grind (arith, nat_tests) in rw other refl

-- text of another length
pub id_of_other : (s : List ℕ) → length s ≢ 36 → None ≡ id_of s
unfolding id_of
id_of_other s len = sym (not_36 s len)

pub id_of_read : (s u : List ℕ) → length s ≡ 36 → Some u ≡ parsed s → Some u ≡ id_of s
unfolding id_of
id_of_read s u len e = e ∙ at_36 s len

none_of : (o : Option (List ℕ)) → ((u : List ℕ) × (o ≡ Some u) → false ≡ true) → o ≡ None
none_of None h = refl
none_of (Some u) h = absurd (true≢false (sym (h (u, refl))))

pub id_of_refused : (s : List ℕ) → length s ≡ 36 → ((u : List ℕ) × (parsed s ≡ Some u) → false ≡ true) → None ≡ id_of s
unfolding id_of
id_of_refused s len h = sym (none_of (parsed s) h) ∙ at_36 s len

pub id_text_is : (id : List ℕ) → hyphenated_text lower id ≡ id_text id
unfolding id_text
id_text_is id = refl

-- an identifier is read from its own text
pub id_of-id_text : (id : List ℕ) → IsId id → id_of (id_text id) ≡ Some id
unfolding id_of id_text
id_of-id_text id h = sym (parses_hyphenated_text lower id (inl refl) h.long h.small)

-- a value after a test
pub if_some : {A : Type 0} (b : Bool) (o : Option A) (u : A) → (if b then o else None) ≡ Some u → (b ≡ true) × (o ≡ Some u)
if_some true o u e = (refl, e)
if_some false o u e = cc

-- what the text of an identifier looks like
record IsHyphenated (s u : List ℕ) : Type 0 where
  long : length s ≡ 36
  hyphens : has_hyphens s ≡ true
  digits : list_all is_hex_digit (digits_of s) ≡ true
  bytes : by_index 16 (byte_of_digits (digits_of s)) ≡ u

hyphenated_says : (s u : List ℕ) → parsed_hyphenated s ≡ Some u → IsHyphenated s u
hyphenated_says s u e =
    let outer = if_some ((length s == 36) && has_hyphens s) (parsed_simple (digits_of s)) u e in
    let inner = if_some ((length (digits_of s) == 32) && list_all is_hex_digit (digits_of s)) (Some (by_index 16 (byte_of_digits (digits_of s)))) u outer.1 in
    let form = and_parts (length s == 36) (has_hyphens s) outer.0 in
    record {
      long = eqb-true (length s) 36 form.0;
      hyphens = form.1;
      digits = (and_parts (length (digits_of s) == 32) (list_all is_hex_digit (digits_of s)) inner.0).1;
      bytes = ap (λ o. unwrap_or o u) inner.1;
    }

hex_digit_at : (xs : List ℕ) (i : ℕ) → list_all is_hex_digit xs ≡ true → i < length xs → is_hex_digit (get_or xs i 0) ≡ true
hex_digit_at xs i all below =
    elim (cases_Bool (is_hex_digit (get_or xs i 0))) [
      | inl passes ↦ passes
      | inr fails ↦ absurd (true≢false (sym all ∙ list_all_at is_hex_digit xs i 0 below fails))
    ]

-- the value of a digit fits in four bits
digit_small : (c : ℕ) → is_hex_digit c ≡ true → value_of c < 16
digit_small c e = grind (arith, nat_tests)

hex_not_close : (c : ℕ) → is_hex_digit c ≡ true → c ≢ 41
hex_not_close c e h = let never : is_hex_digit 41 ≡ true = ap is_hex_digit (sym h) ∙ e in true≢false (sym never)

id_is : (s u : List ℕ) → IsHyphenated s u → IsId u
id_is s u h =
    let digit : (i : ℕ) → i < 32 → value_of (get_or (digits_of s) i 0) < 16 = λ i below.
    digit_small (get_or (digits_of s) i 0) (hex_digit_at (digits_of s) i h.digits (rw (by_index_length 32 (λ k. slice_index s (hyphen_place k))) below)) in
    record {
      long = ap length (sym h.bytes) ∙ by_index_length 16 (byte_of_digits (digits_of s));
      small = λ i d below.
          let place : i < 16 = rw (← by_index_length 16 (byte_of_digits (digits_of s)), h.bytes) below in
          let high = digit (2 * i) (omega arith) in
          let low = digit (2 * i + 1) (omega arith) in
          rw (← h.bytes, by_index_at 16 (byte_of_digits (digits_of s)) i d place) (omega (arith, high, low));
    }

either_true : (a b : Bool) → (a || b) ≡ true → (a ≡ true) ⊎ (b ≡ true)
either_true true b e = inl refl
either_true false b e = inr e

-- the hyphens are not closing parentheses
hyphen_at : (s : List ℕ) (k : ℕ) → has_hyphens s ≡ true → is_hyphen_place k ≡ true → get_or s k 0 ≡ 45
hyphen_at s k h place =
    let last = and_parts _ (slice_index s 23 == 45) h in
    let third = and_parts _ (slice_index s 18 == 45) last.0 in
    let first = and_parts (slice_index s 8 == 45) (slice_index s 13 == 45) third.0 in
    elim (either_true ((k == 8) || (k == 13) || (k == 18)) (k == 23) place) [
      | inr e ↦ ap (slice_index s) (eqb-true k 23 e) ∙ eqb-true (slice_index s 23) 45 last.1
      | inl more ↦ elim (either_true ((k == 8) || (k == 13)) (k == 18) more) [
        | inr e ↦ ap (slice_index s) (eqb-true k 18 e) ∙ eqb-true (slice_index s 18) 45 third.1
        | inl two ↦ elim (either_true (k == 8) (k == 13) two) [
          | inr e ↦ ap (slice_index s) (eqb-true k 13 e) ∙ eqb-true (slice_index s 13) 45 first.1
          | inl e ↦ ap (slice_index s) (eqb-true k 8 e) ∙ eqb-true (slice_index s 8) 45 first.0
        ]
      ]
    ]

-- the index of the digit of a place
place_back : (k : ℕ) → k < 36 → is_hyphen_place k ≡ false → hyphen_place (digit_place k) ≡ k
place_back k below other = grind (arith, nat_tests)

digit_place_small : (k : ℕ) → k < 36 → is_hyphen_place k ≡ false → digit_place k < 32
digit_place_small k below other = grind (arith, nat_tests)

digit_at : (s u : List ℕ) (k : ℕ) → IsHyphenated s u → k < 36 → is_hyphen_place k ≡ false → is_hex_digit (get_or s k 0) ≡ true
digit_at s u k h below other =
    let small = digit_place_small k below other in
    let found = hex_digit_at (digits_of s) (digit_place k) h.digits (rw (by_index_length 32 (λ i. slice_index s (hyphen_place i))) small) in
    ap (λ n. is_hex_digit (slice_index s n)) (sym (place_back k below other))
    ∙ ap is_hex_digit (sym (by_index_at 32 (λ i. slice_index s (hyphen_place i)) (digit_place k) 0 small)) ∙ found

not_close_at : (s u : List ℕ) (k : ℕ) → IsHyphenated s u → k < 36 → get_or s k 0 ≢ 41
not_close_at s u k h below =
    elim (cases_Bool (is_hyphen_place k)) [
      | inl place ↦ λ close. let hyphen = hyphen_at s k h.hyphens place in absurd (omega (arith, hyphen, close))
      | inr other ↦ hex_not_close (get_or s k 0) (digit_at s u k h below other)
    ]

-- the facts that the grammar of URIs needs of an identifier's text
pub record IsIdText (s id : List ℕ) : Type 0 where
  pub long : length s ≡ 36
  pub closed : (k : ℕ) → k < length s → get_or s k 0 ≢ 41
  pub sound : IsId id

pub id_of_says : (s id : List ℕ) → id_of s ≡ Some id → IsIdText s id
unfolding id_of
id_of_says s id e =
    let form = hyphenated_says s id e in
    record {
      long = form.long;
      closed = λ k below. not_close_at s id k form (rw form.long at below);
      sound = id_is s id form;
    }

pub length-id_text : (id : List ℕ) → length (id_text id) ≡ 36
unfolding id_text
length-id_text id = by_index_length 36 _
