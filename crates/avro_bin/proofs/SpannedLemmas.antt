-- What reading without a value says about reading.
use Rattle.std.proofs.Common.{◌≡◌, ℕ, ◌-◌, List, Ok, Err, length, ap}
use Rattle.avro_bin.specs.declared.fault.Why.{Why}
use Rattle.avro_bin.specs.Value.{Value}
use Rattle.avro_bin.specs.Schema.{Schema}
use Rattle.avro_bin.specs.Reading.{Read, Got, value_at}
use Rattle.avro_bin.specs.Along.{along, pass_at}
use Rattle.avro_bin.specs.Refusing.{refusal}
use Rattle.avro_bin.specs.Laws.{read_value, counted}
use Rattle.avro_bin.proofs.GroupLemmas.{ok_pair}

some_ok : (len : ℕ) (r : Read Got) (left : ℕ) (rest : List ℕ) → along (λ x. x.1) r ≡ Ok (left, rest) → (v : Value) × (counted len r ≡ Ok (v, len - length rest))
some_ok len (Ok x) left rest h =
    let p = ok_pair {E = Why × ℕ} x.0.1 left x.1 rest h in
    (x.0.0, ap (λ (b : List ℕ). Ok (x.0.0, len - length b)) p.1)
some_ok len (Err e) left rest h = absurd cc

pub spans_ok : (s : Schema) (limit : ℕ) (bytes : List ℕ) (left : ℕ) (rest : List ℕ) → pass_at (value_at s) limit bytes ≡ Ok (left, rest) → (v : Value) × (read_value s limit bytes ≡ Ok (v, length bytes - length rest))
unfolding read_value pass_at
spans_ok s limit bytes left rest h = some_ok (length bytes) (value_at s limit bytes) left rest h

some_err : (len : ℕ) (r : Read Got) (w : Why) (left : ℕ) → along (λ x. x.1) r ≡ Err (w, left) → counted len r ≡ Err (refusal w (len - left))
some_err len (Ok x) w left h = absurd cc
some_err len (Err e) w left h = let same : e ≡ (w, left) = cc in ap (λ (d : Why × ℕ). Err (refusal d.0 (len - d.1))) same

pub spans_err : (s : Schema) (limit : ℕ) (bytes : List ℕ) (w : Why) (left : ℕ) → pass_at (value_at s) limit bytes ≡ Err (w, left) → read_value s limit bytes ≡ Err (refusal w (length bytes - left))
unfolding read_value pass_at
spans_err s limit bytes w left h = some_err (length bytes) (value_at s limit bytes) w left h
