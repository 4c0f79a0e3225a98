-- The groups of seven bits that a number is read from and written as; for the crates above too.
use Rattle.std.proofs.Common.{◌≡◌, ℕ, zero, suc, ◌+◌, ◌-◌, ◌*◌, ◌/◌, ◌%◌, ◌<◌, ◌≤◌, Bool, true, false, List, ◌∷◌, Result, Ok, Err, cond, refl, sym, ap, arith, ◌⊎◌, inl, inr}
use Rattle.std.proofs.lemmas.Bool.{le-ltb}
use Rattle.avro_bin.specs.declared.fault.Why.{Why}
use Rattle.avro_bin.specs.Number.{shortest}
use Rattle.avro_bin.specs.Reading.{more_groups}

-- which way a test went
pub chosen : {A : Type 0} (b : Bool) (x y z : A) → cond b x y ≡ z → ((b ≡ true) × (x ≡ z)) ⊎ ((b ≡ false) × (y ≡ z))
chosen true x y z e = inl (refl, e)
chosen false x y z e = inr (refl, e)

-- a result, at the type that readings have
abbrev pub done : {A E : Type 0} → A → Result A E
done x = Ok x

pub ok_is : {A E : Type 0} (x y : A) → done {E = E} x ≡ done y → x ≡ y
ok_is x y e = cc

pub ok_pair : {A B E : Type 0} (a c : A) (b d : B) → done {A = A × B} {E = E} (a, b) ≡ done (c, d) → (a ≡ c) × (b ≡ d)
ok_pair {A} {B} a c b d e = (ap (λ (p : A × B). p.0) (ok_is (a, b) (c, d) e), ap (λ (p : A × B). p.1) (ok_is (a, b) (c, d) e))

abbrev pub Groups : Type 0
Groups = Result (ℕ × List ℕ) Why

pub more_ok : (b : ℕ) (r : Groups) (z : ℕ) (rest : List ℕ) → more_groups b r ≡ Ok (z, rest) → (high : ℕ) × (r ≡ Ok (high, rest)) × (z ≡ b % 128 + 128 * high)
more_ok b (Ok x) z rest e = let p = ok_pair {E = Why} (b % 128 + 128 * x.0) z x.1 rest e in (x.0, ap (λ (r : List ℕ). Ok (x.0, r)) p.1, sym p.0)
more_ok b (Err w) z rest e = absurd cc

pub shortest_more : (k z : ℕ) → 0 < k → 128 ≤ z → shortest k z ≡ (z % 128 + 128) ∷ shortest (k - 1) (z / 128)
shortest_more zero z h le = absurd (omega arith)
shortest_more (suc k) z h le =
    let e : k ≡ suc k - 1 = omega arith in
    rw (le-ltb z 128 le) (ap (λ (j : ℕ). (z % 128 + 128) ∷ shortest j (z / 128)) e)
