-- What is read at the front of some bytes is read alike when more bytes follow, and leaves the end of them.
use Rattle.std.proofs.Common.{◌≡◌, ℕ, zero, suc, ◌<◌, ℤ, List, [], ◌∷◌, ◌++◌, Ok, Err, length, ap, ◌∙◌, arith}
use Rattle.std.proofs.lemmas.List.{length-append}
use Rattle.avro_bin.specs.declared.fault.Why.{Why}
use Rattle.avro_bin.specs.Value.{Value}
use Rattle.avro_bin.specs.Schema.{Schema}
use Rattle.avro_bin.specs.Reading.{Read, Got, number_at, place_at, text_at, value_at}
use Rattle.avro_bin.specs.Along.{along, pass_at}
use Rattle.avro_bin.specs.Laws.{IsBytes}
use Rattle.avro_bin.proofs.GroupLemmas.{ok_pair}
use Rattle.avro_bin.proofs.FoundLemmas.{number_found, place_found, text_found, value_found}
use Rattle.avro_bin.proofs.AgainLemmas.{regroup, number_long, text_again, place_again, value_again}
use Rattle.avro_bin.proofs.FoundLemmas.{number_again}

pub front_is_bytes : (a b : List ℕ) → IsBytes (a ++ b) → IsBytes a
front_is_bytes [] b fits i = omega arith
front_is_bytes (x ∷ a) b fits zero = fits zero
front_is_bytes (x ∷ a) b fits (suc i) = front_is_bytes a b (λ j. fits (suc j)) i

-- what was read and what follows it, of more bytes
pub record Longer {A : Type 0} (read : List ℕ → Read A) (bytes : List ℕ) (x : A) (rest more : List ℕ) : Type 0 where
  pub text : List ℕ
  pub split : bytes ≡ text ++ rest
  pub again : read (bytes ++ more) ≡ Ok (x, rest ++ more)

module _ (bytes rest more : List ℕ) (fits : IsBytes (bytes ++ more)) where
  pub number_longer : (z : ℤ) → number_at bytes ≡ Ok (z, rest) → Longer number_at bytes z rest more
  number_longer z e =
      let f = number_found bytes z rest (front_is_bytes bytes more fits) e in
      record { text = f.text; split = f.parts; again = ap number_at (regroup bytes f.text rest more f.parts) ∙ number_again z f.text (rest ++ more) f.spelled }

  pub number_shorter : (z : ℤ) → number_at bytes ≡ Ok (z, rest) → length rest < length bytes
  number_shorter z e =
      let f = number_found bytes z rest (front_is_bytes bytes more fits) e in
      let long : 0 < length f.text = number_long z f.text f.spelled in
      omega (arith, long, ap length f.parts, length-append f.text rest)

  pub place_longer : (k p : ℕ) → place_at k bytes ≡ Ok (p, rest) → Longer (place_at k) bytes p rest more
  place_longer k p e =
      let f = place_found k bytes p rest (front_is_bytes bytes more fits) e in
      record { text = f.text; split = f.parts; again = ap (place_at k) (regroup bytes f.text rest more f.parts) ∙ place_again p k f.text (rest ++ more) f.spelled }

  pub text_longer : (b : List ℕ) → text_at bytes ≡ Ok (b, rest) → Longer text_at bytes b rest more
  text_longer b e =
      let f = text_found bytes b rest (front_is_bytes bytes more fits) e in
      record { text = f.text; split = f.parts; again = ap text_at (regroup bytes f.text rest more f.parts) ∙ text_again b f.text (rest ++ more) f.spelled.0 f.spelled.1 }

passed : (r : Read Got) (m : ℕ) (rest : List ℕ) → along (λ x. x.1) r ≡ Ok (m, rest) → (v : Value) × (r ≡ Ok ((v, m), rest))
passed (Ok x) m rest e =
    let p = ok_pair {E = Why × ℕ} x.0.1 m x.1 rest e in
    (x.0.0, ap (λ (k : ℕ). Ok ((x.0.0, k), x.1)) p.0 ∙ ap (λ (b : List ℕ). Ok ((x.0.0, m), b)) p.1)
passed (Err f) m rest e = absurd cc

pub pass_longer : (bytes rest more : List ℕ) → IsBytes (bytes ++ more) → (s : Schema) (n m : ℕ) → pass_at (value_at s) n bytes ≡ Ok (m, rest) → Longer (pass_at (value_at s) n) bytes m rest more
unfolding pass_at
pass_longer bytes rest more fits s n m e =
    let v = passed (value_at s n bytes) m rest e in
    let f = value_found s n bytes v.0 m rest (front_is_bytes bytes more fits) v.1 in
    record {
      text = f.text;
      split = f.parts;
      again = ap (pass_at (value_at s) n) (regroup bytes f.text rest more f.parts) ∙ ap (along (λ x. x.1)) (value_again s v.0 n m f.text (rest ++ more) f.counted f.spelled);
    }
