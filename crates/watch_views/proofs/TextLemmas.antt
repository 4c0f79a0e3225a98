-- Texts that are appended whole or not at all.
use Rattle.std.proofs.Common.{ℕ, ◌≡◌, List, ◌++◌, length, take, ◌∙◌}
use Rattle.std.specs.Prelude.{Result, Ok, Err, OnOk, OnErr}
use Rattle.avro_bin.specs.Plain.{Writes}

-- what is written, and taken back if memory ran out, is appended whole or not at all
pub whole_ok : {E : Type 0} (text old mid new : List ℕ) (w r : Result (Unit {0}) E) → Writes text old mid w → r ≡ w → OnOk r (new ≡ mid) → OnOk r (new ≡ old ++ text)
whole_ok text old mid new (Ok x) (Ok y) written same ok = ok ∙ written
whole_ok text old mid new (Ok x) (Err e) written same ok = tt
whole_ok text old mid new (Err e) (Ok y) written same ok = cc
whole_ok text old mid new (Err e) (Err f) written same ok = tt

pub whole_err : {E : Type 0} (text old mid new : List ℕ) (w r : Result (Unit {0}) E) → Writes text old mid w → r ≡ w → OnErr r (new ≡ take (length old) mid) → OnErr r (new ≡ old)
whole_err text old mid new (Ok x) (Ok y) written same err = tt
whole_err text old mid new (Ok x) (Err e) written same err = cc
whole_err text old mid new (Err e) (Ok y) written same err = tt
whole_err text old mid new (Err e) (Err f) written same err = err ∙ written
