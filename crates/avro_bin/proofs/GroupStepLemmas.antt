-- The groups of a number, one after another, as loops read and write them.
use Rattle.std.proofs.Common.{◌≡◌, ℕ, ℤ, suc, ◌+◌, ◌-◌, ◌*◌, ◌/◌, ◌%◌, ◌^◌, ◌<◌, ◌≤◌, List, [], ◌∷◌, ◌++◌, Ok, Err, length, get_or, take, drop, set, Result, refl, sym, ap, subst, ◌∙◌, arith, append_assoc, add-one}
use Rattle.std.proofs.Math.Nat.{mul-add, mul_assoc, pow-suc, pow-le-pow_right, mul-le-mul_left}
use Rattle.std.proofs.lemmas.List.{drop_more, take_more_set, take_all, length-drop}
use Rattle.std.proofs.lemmas.Bool.{le-ltb, lt-ltb}
use Rattle.avro_bin.specs.declared.fault.Why.{Why}
use Rattle.avro_bin.specs.Number.{top, shortest, plain_number, unsigned}
use Rattle.avro_bin.specs.Reading.{groups_at, more_groups, GivesWhy}
use Rattle.avro_bin.specs.Groups.{raised}
use Rattle.avro_bin.proofs.GroupLemmas.{Groups}

-- a group and what the groups before it denote are small enough
pub record Fits (low weight group : ℕ) : Type 0 where
  pub product : weight * group < 2 ^ 63
  pub sum : low + weight * group < weight * 128
  pub next : weight * 128 ≤ 2 ^ 63

pub group_fits : (i low weight group : ℕ) → i < 9 → weight ≡ 128 ^ i → low < weight → group < 128 → Fits low weight group
group_fits i low weight group lt is below small =
    let w : 128 ^ i ≤ 128 ^ 8 = pow-le-pow_right {n = 128} (omega arith) {i = i} {j = 8} (omega arith) in
    let p : weight * group ≤ weight * 127 = mul-le-mul_left {m = group} {n = 127} weight (omega arith) in
    record { product = omega arith; sum = omega arith; next = omega arith }

raised_more : (low weight b : ℕ) (r : Groups) → raised low weight (more_groups b r) ≡ raised (low + weight * (b % 128)) (weight * 128) r
raised_more low weight b (Err w) = refl
raised_more low weight b (Ok x) =
    let d : weight * (b % 128 + 128 * x.0) ≡ weight * (b % 128) + weight * (128 * x.0) = mul-add weight (b % 128) (128 * x.0) in
    let a : weight * 128 * x.0 ≡ weight * (128 * x.0) = mul_assoc weight 128 x.0 in
    let e : low + weight * (b % 128 + 128 * x.0) ≡ low + weight * (b % 128) + weight * 128 * x.0 = omega (arith, d, a) in
    ap (λ (z : ℕ). Ok (z, x.1)) e

groups_split : (i b : ℕ) (bytes : List ℕ) → i < 9 → 128 ≤ b → groups_at (10 - i) (b ∷ bytes) ≡ more_groups b (groups_at (10 - (i + 1)) bytes)
groups_split i b bytes lt le =
    let k : 10 - i ≡ suc (suc (8 - i)) = omega arith in
    let j : 10 - (i + 1) ≡ suc (8 - i) = omega arith in
    rw (k, j, le-ltb b 128 le) refl

-- a byte that isn't the last
pub groups_step : (i low weight : ℕ) (bytes : List ℕ) (total : Groups) → i < 9 → i < length bytes → 128 ≤ get_or bytes i 0 → total ≡ raised low weight (groups_at (10 - i) (drop i bytes))
    → total ≡ raised (low + weight * (get_or bytes i 0 % 128)) (weight * 128) (groups_at (10 - (i + 1)) (drop (i + 1) bytes))
groups_step i low weight bytes total lt there le so_far =
    so_far
    ∙ ap (λ (b : List ℕ). raised low weight (groups_at (10 - i) b)) (drop_more bytes i 0 there)
    ∙ ap (raised low weight) (groups_split i (get_or bytes i 0) (drop (i + 1) bytes) lt le)
    ∙ raised_more low weight (get_or bytes i 0) (groups_at (10 - (i + 1)) (drop (i + 1) bytes))

groups_ends : (i b : ℕ) (bytes : List ℕ) → i < 9 → b < 128 → groups_at (10 - i) (b ∷ bytes) ≡ Ok (b, bytes)
groups_ends i b bytes lt small =
    let k : 10 - i ≡ suc (suc (8 - i)) = omega arith in
    rw (k, lt-ltb b 128 small) refl

-- the last byte
pub groups_last : (i low weight : ℕ) (bytes : List ℕ) (total : Groups) → i < 9 → i < length bytes → get_or bytes i 0 < 128 → total ≡ raised low weight (groups_at (10 - i) (drop i bytes))
    → total ≡ Ok (low + weight * get_or bytes i 0, drop (i + 1) bytes)
groups_last i low weight bytes total lt there small so_far =
    so_far
    ∙ ap (λ (b : List ℕ). raised low weight (groups_at (10 - i) b)) (drop_more bytes i 0 there)
    ∙ ap (raised low weight) (groups_ends i (get_or bytes i 0) (drop (i + 1) bytes) lt small)

pub put_begin : (x : ℤ) (z : ℕ) → z ≡ unsigned x → plain_number x ≡ shortest 9 z
unfolding plain_number
put_begin x z e = ap (shortest 9) (sym e)

-- a group that isn't the last
pub put_step : (i left : ℕ) (text groups : List ℕ) → i < 9 → i < length groups → 128 ≤ left → text ≡ take i groups ++ shortest (9 - i) left
    → text ≡ take (i + 1) (set groups i (left % 128 + 128)) ++ shortest (9 - (i + 1)) (left / 128)
put_step i left text groups lt there le so_far =
    let k : 9 - i ≡ suc (9 - (i + 1)) = omega arith in
    let one : shortest (9 - i) left ≡ (left % 128 + 128) ∷ shortest (9 - (i + 1)) (left / 128) = rw (k, le-ltb left 128 le) refl in
    so_far ∙ ap (λ (t : List ℕ). take i groups ++ t) one ∙ rw (take_more_set groups i (left % 128 + 128) there) (simp append_assoc)

-- the last group
pub put_last : (i left : ℕ) (text groups : List ℕ) → i < 9 → i < length groups → left < 128 → text ≡ take i groups ++ shortest (9 - i) left → text ≡ take (i + 1) (set groups i left)
put_last i left text groups lt there small so_far =
    let k : 9 - i ≡ suc (9 - (i + 1)) = omega arith in
    let one : shortest (9 - i) left ≡ left ∷ [] = rw (k, lt-ltb left 128 small) refl in
    so_far ∙ ap (λ (t : List ℕ). take i groups ++ t) one ∙ sym (take_more_set groups i left there)

-- the tenth group
pub put_tenth : (i left : ℕ) (text groups : List ℕ) → i ≡ 9 → length groups ≡ 10 → text ≡ take i groups ++ shortest (9 - i) left → text ≡ take 10 (set groups 9 left)
put_tenth i left text groups k count so_far =
    so_far ∙ rw k (sym (take_more_set groups 9 left (omega arith)))

pub top_less : (i : ℕ) → i < 9 → top (10 - i) ≡ 128 * top (10 - (i + 1))
top_less i lt =
    let k : 10 - i ≡ suc (suc (8 - i)) = omega arith in
    let j : 10 - (i + 1) ≡ suc (8 - i) = omega arith in
    rw (k, j) refl

-- the rest of a list is as long as it is
pub whole_rest : (n : ℕ) (bytes : List ℕ) → drop n bytes ≡ take (length bytes - n) (drop n bytes)
whole_rest n bytes = sym (take_all (length bytes - n) (drop n bytes) (omega (arith, length-drop n bytes)))

pub pow_next : (i : ℕ) → 128 ^ (i + 1) ≡ 128 ^ i * 128
pow_next i = rw add-one (pow-suc 128 i)

pub nine : (i : ℕ) → 9 ≤ i → i ≤ 9 → i ≡ 9
nine i past few = omega arith

-- the tenth byte
pub tenth : {X : Type 0} (view : X → ℕ × List ℕ) (i low weight : ℕ) (bytes : List ℕ) (total : Groups) (result : Result X Why) → i ≡ 9 → weight ≡ 2 ^ 63 → total ≡ raised low weight (groups_at (10 - i) (drop i bytes))
    → GivesWhy view result (raised low (2 ^ 63) (groups_at 1 (take (length bytes - 9) (drop 9 bytes)))) → GivesWhy view result total
tenth view i low weight bytes total result k w so_far h =
    let e : total ≡ raised low (2 ^ 63) (groups_at 1 (take (length bytes - 9) (drop 9 bytes))) =
    so_far ∙ rw (k, w) (ap (λ (b : List ℕ). raised low (2 ^ 63) (groups_at 1 b)) (whole_rest 9 bytes)) in
    subst (GivesWhy view result) (sym e) h
