-- The shortest groups of a number spell it.
use Rattle.std.proofs.Common.{◌≡◌, ℕ, zero, suc, ◌+◌, ◌*◌, ◌/◌, ◌%◌, ◌<◌, ◌≤◌, ◌^◌, Bool, true, false, List, [], ◌∷◌, ltb, eqb, length, refl, ap, sym, ◌∙◌, arith, ◌⊎◌, inl, inr, ℤ, pos, negsuc}
use Rattle.std.proofs.lemmas.Bool.{ltb-true, ltb-false, le-ltb, lt-ltb}
use Rattle.std.proofs.lemmas.Bool.Decides.{nat_tests}
use Rattle.avro_bin.specs.Number.{IsGroups, group_sum, signed, unsigned, Number, top, shortest, plain_number}
use Rattle.avro_bin.proofs.NumberLawLemmas.{IsLast, last_more, last_none, last_one, IsGroups-more}

-- a number of one group, or of a group and others
either : (z : ℕ) → (z < 128) ⊎ (128 ≤ z)
either z = tested (ltb z 128) refl
  where
    tested : (b : Bool) → ltb z 128 ≡ b → (z < 128) ⊎ (128 ≤ z)
    tested true h = inl (ltb-true _ _ h)
    tested false h = inr (ltb-false _ _ h)

pub record Spelled (k z : ℕ) (text : List ℕ) : Type 0 where
  pub groups : IsGroups text
  pub short : length text ≤ suc k
  pub last : IsLast (suc k) text
  pub sum : group_sum text ≡ z

one_group : (k z : ℕ) → z < 128 → z < top (suc k) → Spelled k z (z ∷ [])
one_group zero z lt small = record { groups = lt; short = omega arith; last = last_one z (omega arith); sum = omega arith }
one_group (suc k) z lt small = record { groups = lt; short = omega arith; last = last_more k z [] (last_none (suc k)); sum = omega arith }

pub shortest_spelled : (k z : ℕ) → z < top (suc k) → Spelled k z (shortest k z)
shortest_spelled zero z small = one_group 0 z (omega arith) small
shortest_spelled (suc k) z small = elim (either z) [
  | inl lt ↦ rw (lt-ltb z 128 lt) (one_group (suc k) z lt small)
  | inr le ↦
      let s = shortest_spelled k (z / 128) (omega arith) in
      rw (le-ltb z 128 le) (record {
        groups = IsGroups-more (z % 128 + 128) (shortest k (z / 128)) (omega arith) (omega arith) s.groups;
        short = omega (arith, s.short);
        last = last_more k (z % 128 + 128) (shortest k (z / 128)) s.last;
        sum = omega (arith, s.sum);
      })
]

signed_unsigned : (x : ℤ) → signed (unsigned x) ≡ x
signed_unsigned (pos n) =
    let even : eqb (2 * n % 2) 0 ≡ true = grind (arith, nat_tests) in
    let half : 2 * n / 2 ≡ n = omega arith in
    rw (even, half) refl
signed_unsigned (negsuc n) =
    let odd : eqb ((2 * n + 1) % 2) 0 ≡ false = grind (arith, nat_tests) in
    let half : (2 * n + 1) / 2 ≡ n = omega arith in
    rw (odd, half) refl

-- what is written for a number of 64 bits spells it
pub number_plain : (x : ℤ) → unsigned x < 2 ^ 64 → Number x (plain_number x)
unfolding plain_number
number_plain x small =
    let s = shortest_spelled 9 (unsigned x) small in
    record { groups = s.groups; short = s.short; tenth = s.last 9 refl; value = sym (signed_unsigned x) ∙ ap signed (sym s.sum) }
