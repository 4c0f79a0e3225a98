-- What is read is spelled that way, and what is spelled is read.
use Rattle.std.proofs.Common.{◌≡◌, ℕ, zero, suc, ◌+◌, ◌*◌, ◌%◌, ◌<◌, ◌≤◌, List, [], ◌∷◌, ◌++◌, Ok, Err, ltb, length, get_or, refl, ap, arith, inl, inr}
use Rattle.std.proofs.lemmas.Bool.{ltb-true, ltb-false, le-ltb, lt-ltb}
use Rattle.avro_bin.specs.declared.fault.Why.{Why}
use Rattle.avro_bin.specs.declared.fault.Why.TheVariants as why
use Rattle.avro_bin.specs.Number.{IsGroups, group_sum}
use Rattle.avro_bin.specs.Laws.{IsBytes}
use Rattle.avro_bin.specs.Reading.{groups_at, more_groups}
use Rattle.avro_bin.proofs.GroupLemmas.{chosen, done, ok_pair, more_ok}

pub IsBytes-rest : (b : ℕ) (bytes : List ℕ) → IsBytes (b ∷ bytes) → IsBytes bytes
IsBytes-rest b bytes h i = h (suc i)

-- a k-th byte is at most 1
abbrev pub IsLast : ℕ → List ℕ → Type 0
IsLast k text = (i : ℕ) → suc i ≡ k → get_or text i 0 ≤ 1

pub last_more : (k b : ℕ) (text : List ℕ) → IsLast (suc k) text → IsLast (suc (suc k)) (b ∷ text)
last_more k b text h zero e = absurd (omega arith)
last_more k b text h (suc i) e = h i (omega arith)

pub last_none : (k : ℕ) → IsLast k []
last_none k i e = omega arith

pub last_one : (b : ℕ) → b ≤ 1 → IsLast 1 (b ∷ [])
last_one b h zero e = h
last_one b h (suc i) e = omega arith

-- what k groups spell, at the front of the bytes
pub record Front (k : ℕ) (bytes : List ℕ) (z : ℕ) (rest : List ℕ) : Type 0 where
  pub text : List ℕ
  pub parts : bytes ≡ text ++ rest
  pub groups : IsGroups text
  pub short : length text ≤ k
  pub last : IsLast k text
  pub value : z ≡ group_sum text

one_group : (k b : ℕ) (bytes : List ℕ) (z : ℕ) (rest : List ℕ) → b < 128 → (k ≡ 0 → b ≤ 1) → (b ≡ z) × (bytes ≡ rest) → Front (suc k) (b ∷ bytes) z rest
one_group zero b bytes z rest lt one p = record {
  text = b ∷ [];
  parts = ap (λ (r : List ℕ). b ∷ r) p.1;
  groups = lt;
  short = omega arith;
  last = last_one b (one refl);
  value = omega (arith, p.0);
}
one_group (suc k) b bytes z rest lt one p = record {
  text = b ∷ [];
  parts = ap (λ (r : List ℕ). b ∷ r) p.1;
  groups = lt;
  short = omega arith;
  last = last_more k b [] (last_none (suc k));
  value = omega (arith, p.0);
}

pub IsGroups-more : (b : ℕ) (text : List ℕ) → 128 ≤ b → b < 256 → IsGroups text → IsGroups (b ∷ text)
IsGroups-more b [] le lt h = absurd h
IsGroups-more b (c ∷ text) le lt h = (le, lt, h)

pub groups_found : (k : ℕ) (bytes : List ℕ) (z : ℕ) (rest : List ℕ) → IsBytes bytes → groups_at k bytes ≡ Ok (z, rest) → Front k bytes z rest
groups_found zero bytes z rest fits e = absurd cc
groups_found (suc k) [] z rest fits e = absurd cc
groups_found (suc zero) (b ∷ bytes) z rest fits e =
    elim (chosen (ltb b 2) (Ok (b, bytes)) (Err why.Number) (Ok (z, rest)) e) [
      | inl h ↦ let lt : b < 2 = ltb-true _ _ h.0 in one_group 0 b bytes z rest (omega arith) (λ _. omega arith) (ok_pair {E = Why} b z bytes rest h.1)
      | inr h ↦ absurd (let bad : Err why.Number ≡ done (z, rest) = h.1 in cc)
    ]
groups_found (suc (suc k)) (b ∷ bytes) z rest fits e =
    elim (chosen (ltb b 128) (Ok (b, bytes)) (more_groups b (groups_at (suc k) bytes)) (Ok (z, rest)) e) [
      | inl h ↦ one_group (suc k) b bytes z rest (ltb-true _ _ h.0) (λ n. absurd (omega arith)) (ok_pair {E = Why} b z bytes rest h.1)
      | inr h ↦
          let m = more_ok b (groups_at (suc k) bytes) z rest h.1 in
          let f = groups_found (suc k) bytes m.0 rest (IsBytes-rest b bytes fits) m.1 in
          record {
            text = b ∷ f.text;
            parts = ap (λ (r : List ℕ). b ∷ r) f.parts;
            groups = IsGroups-more b f.text (ltb-false _ _ h.0) (fits 0) f.groups;
            short = omega (arith, f.short);
            last = last_more k b f.text f.last;
            value = omega (arith, m.2, ap (λ (n : ℕ). 128 * n) f.value);
          }
    ]

pub groups_again : (k : ℕ) (text rest : List ℕ) → IsGroups text → length text ≤ k → IsLast k text → groups_at k (text ++ rest) ≡ Ok (group_sum text, rest)
groups_again k [] rest h short last = absurd h
groups_again zero (b ∷ text) rest h short last = absurd (omega arith)
groups_again (suc zero) (b ∷ []) rest h short last =
    let one : b ≤ 1 = last 0 refl in
    let e : b ≡ b % 128 + 128 * 0 = omega arith in
    rw (lt-ltb b 2 (omega arith)) (ap (λ (n : ℕ). Ok (n, rest)) e)
groups_again (suc (suc k)) (b ∷ []) rest h short last =
    let e : b ≡ b % 128 + 128 * 0 = omega arith in
    rw (lt-ltb b 128 h) (ap (λ (n : ℕ). Ok (n, rest)) e)
groups_again (suc zero) (b ∷ c ∷ text) rest h short last = absurd (omega arith)
groups_again (suc (suc k)) (b ∷ c ∷ text) rest h short last =
    rw (le-ltb b 128 h.0, groups_again (suc k) (c ∷ text) rest h.2 (omega arith) (λ i e. last (suc i) (ap suc e))) refl
