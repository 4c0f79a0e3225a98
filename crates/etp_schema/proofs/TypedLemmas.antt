-- What typed reading says about reading. For the crates above too.
use Rattle.std.proofs.Common.{◌≡◌, ◌∙◌, ℕ, ◌-◌, List, Ok, Err, length, sym, ap}
use Rattle.avro_bin.specs.declared.fault.Why.{Why}
use Rattle.avro_bin.specs.Value.{Value}
use Rattle.avro_bin.specs.Schema.{Schema}
use Rattle.avro_bin.specs.Reading.{Read, Got, value_at}
use Rattle.avro_bin.specs.Along.{along, seen}
use Rattle.avro_bin.specs.Refusing.{refusal}
use Rattle.avro_bin.specs.Laws.{read_value, counted}
use Rattle.avro_bin.proofs.GroupLemmas.{ok_pair}
use Rattle.etp_schema.specs.Form.{Form}

some_ok : {A : Type 0} (f : Value → A) (len : ℕ) (r : Read Got) (x : A) (left : ℕ) (rest : List ℕ) → along (seen f) r ≡ Ok ((x, left), rest) → (v : Value) × (counted len r ≡ Ok (v, len - length rest)) × (x ≡ f v)
some_ok {A} f len (Ok y) x left rest h =
    let p = ok_pair {E = Why × ℕ} (f y.0.0, y.0.1) (x, left) y.1 rest h in
    (y.0.0, ap (λ (b : List ℕ). Ok (y.0.0, len - length b)) p.1, sym (ap (λ (q : A × ℕ). q.0) p.0))
some_ok f len (Err e) x left rest h = absurd cc

some_err : {A : Type 0} (f : Value → A) (len : ℕ) (r : Read Got) (w : Why) (left : ℕ) → along (seen f) r ≡ Err (w, left) → counted len r ≡ Err (refusal w (len - left))
some_err f len (Ok x) w left h = absurd cc
some_err f len (Err e) w left h = let same : e ≡ (w, left) = cc in ap (λ (d : Why × ℕ). Err (refusal d.0 (len - d.1))) same

-- for a schema's values, seen through a function
pub seen_ok : {A : Type 0} (f : Value → A) (s : Schema) (limit : ℕ) (bytes : List ℕ) (x : A) (left : ℕ) (rest : List ℕ) → along (seen f) (value_at s limit bytes) ≡ Ok ((x, left), rest) → (v : Value) × (read_value s limit bytes ≡ Ok (v, length bytes - length rest)) × (x ≡ f v)
unfolding read_value
seen_ok f s limit bytes x left rest h = some_ok f (length bytes) (value_at s limit bytes) x left rest h

pub seen_err : {A : Type 0} (f : Value → A) (s : Schema) (limit : ℕ) (bytes : List ℕ) (w : Why) (left : ℕ) → along (seen f) (value_at s limit bytes) ≡ Err (w, left) → read_value s limit bytes ≡ Err (refusal w (length bytes - left))
unfolding read_value
seen_err f s limit bytes w left h = some_err f (length bytes) (value_at s limit bytes) w left h

-- for a form's values
pub typed_ok : {A : Type 0} (f : Form A) (limit : ℕ) (bytes : List ℕ) (x : A) (left : ℕ) (rest : List ℕ) → f.at limit bytes ≡ Ok ((x, left), rest) → (v : Value) × (read_value f.schema limit bytes ≡ Ok (v, length bytes - length rest)) × (x ≡ f.from_value v)
typed_ok f limit bytes x left rest h = seen_ok f.from_value f.schema limit bytes x left rest (sym (f.at_is limit bytes) ∙ h)

pub typed_err : {A : Type 0} (f : Form A) (limit : ℕ) (bytes : List ℕ) (w : Why) (left : ℕ) → f.at limit bytes ≡ Err (w, left) → read_value f.schema limit bytes ≡ Err (refusal w (length bytes - left))
typed_err f limit bytes w left h = seen_err f.from_value f.schema limit bytes w left (sym (f.at_is limit bytes) ∙ h)
