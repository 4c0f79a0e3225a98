-- A number is refused exactly as the definition says.
use Rattle.std.proofs.Common.{◌≡◌, ℕ, zero, suc, ◌<◌, ◌≤◌, List, [], ◌∷◌, ◌++◌, Ok, Err, ltb, length, refl, ap, subst, ◌∙◌, arith, inl, inr}
use Rattle.std.proofs.lemmas.Bool.{ltb-false, le-ltb}
use Rattle.avro_bin.specs.declared.fault.Why.{Why}
use Rattle.avro_bin.specs.declared.fault.Why.TheVariants as why
use Rattle.avro_bin.specs.Number.{AreHigh, NumberFails}
use Rattle.avro_bin.specs.Reading.{groups_at, more_groups}
use Rattle.avro_bin.proofs.GroupLemmas.{chosen, done, Groups}

abbrev failed : Why → Groups
failed w = Err w

err_is : (v w : Why) → failed v ≡ failed w → v ≡ w
err_is v w e = cc

more_err : (b : ℕ) (r : Groups) (w : Why) → more_groups b r ≡ Err w → r ≡ Err w
more_err b (Ok x) w e = absurd cc
more_err b (Err v) w e = e

fails_more : (k b : ℕ) (bytes : List ℕ) (w : Why) → 128 ≤ b → NumberFails k bytes w → NumberFails (suc k) (b ∷ bytes) w
fails_more k b bytes why.Short le h = record { high = (le, h.high); few = omega (arith, h.few) }
fails_more k b bytes why.Number le h = record { text = b ∷ h.text; byte = h.byte; rest = h.rest; parts = ap (λ (t : List ℕ). b ∷ t) h.parts; high = (le, h.high); count = ap suc h.count; big = h.big }
fails_more k b bytes _ le h = absurd h

-- what is refused fails in the same way
pub groups_fail : (k : ℕ) (bytes : List ℕ) (w : Why) → groups_at (suc k) bytes ≡ Err w → NumberFails (suc k) bytes w
groups_fail k [] w e = subst (NumberFails (suc k) []) (err_is why.Short w e) (record { high = tt; few = omega arith })
groups_fail zero (b ∷ bytes) w e =
    elim (chosen (ltb b 2) (Ok (b, bytes)) (Err why.Number) (Err w) e) [
      | inl h ↦ absurd (let bad : done (b, bytes) ≡ failed w = h.1 in cc)
      | inr h ↦
          let le : 2 ≤ b = ltb-false _ _ h.0 in
          subst (NumberFails 1 (b ∷ bytes)) (err_is why.Number w h.1) (record { text = []; byte = b; rest = bytes; parts = refl; high = tt; count = refl; big = omega arith })
    ]
groups_fail (suc k) (b ∷ bytes) w e =
    elim (chosen (ltb b 128) (Ok (b, bytes)) (more_groups b (groups_at (suc k) bytes)) (Err w) e) [
      | inl h ↦ absurd (let bad : done (b, bytes) ≡ failed w = h.1 in cc)
      | inr h ↦ fails_more (suc k) b bytes w (ltb-false _ _ h.0) (groups_fail k bytes w (more_err b (groups_at (suc k) bytes) w h.1))
    ]

-- what fails this way is refused
pub short_refused : (k : ℕ) (bytes : List ℕ) → AreHigh bytes → length bytes < suc k → groups_at (suc k) bytes ≡ Err why.Short
short_refused k [] high few = refl
short_refused zero (b ∷ bytes) high few = absurd (omega arith)
short_refused (suc k) (b ∷ bytes) high few = rw (le-ltb b 128 high.0, short_refused k bytes high.1 (omega arith)) refl

pub long_refused : (k : ℕ) (text : List ℕ) (byte : ℕ) (rest : List ℕ) → AreHigh text → length text ≡ k → 1 < byte → groups_at (suc k) (text ++ byte ∷ rest) ≡ Err why.Number
long_refused zero [] byte rest high count big = rw (le-ltb byte 2 (omega arith)) refl
long_refused (suc k) [] byte rest high count big = absurd (omega arith)
long_refused zero (b ∷ text) byte rest high count big = absurd (omega arith)
long_refused (suc k) (b ∷ text) byte rest high count big = rw (le-ltb b 128 high.0, long_refused k text byte rest high.1 (omega arith) big) refl

pub fail_groups : (k : ℕ) (bytes : List ℕ) (w : Why) → NumberFails (suc k) bytes w → groups_at (suc k) bytes ≡ Err w
fail_groups k bytes why.Short h = short_refused k bytes h.high h.few
fail_groups k bytes why.Number h = ap (groups_at (suc k)) h.parts ∙ long_refused k h.text h.byte h.rest h.high (omega (arith, h.count)) h.big
fail_groups k bytes _ h = absurd h
