-- A body is read as the message of its kind. For the crates above.
use Rattle.std.proofs.Common.{◌≡◌, ℕ, List, Some, Ok, sym, ap, ◌∙◌}
use Rattle.avro_bin.specs.declared.fault.Fault.{Fault}
use Rattle.avro_bin.specs.Reading.{Fails, value_at}
use Rattle.avro_bin.specs.Along.{along, seen}
use Rattle.avro_bin.proofs.AlongLemmas.{along_twice}
use Rattle.avro_bin.proofs.StepLemmas.{Fails-same}
use Rattle.avro_bin.proofs.PassingLemmas.{Fails-along}
use Rattle.etp_schema.specs.Form.{Form}
use Rattle.etp_schema.specs.Family.{message}
use Rattle.etp_schema.specs.Reading.{kind_at}

module _ {A M : Type 0} (number : ℕ) (f : Form A) (variant : A → M) (n : ℕ) (bytes : List ℕ) where
  kind_is : along (seen (λ x. Some (variant x))) (f.at n bytes) ≡ kind_at (Some (message number f variant)) n bytes
  kind_is = ap (along (seen (λ x. Some (variant x)))) (f.at_is n bytes) ∙ along_twice (seen (λ x. Some (variant x))) (seen f.from_value) (value_at f.schema n bytes)

  pub kind_read : (x : A) (left : ℕ) (rest : List ℕ) → f.at n bytes ≡ Ok ((x, left), rest) → kind_at (Some (message number f variant)) n bytes ≡ Ok ((Some (variant x), left), rest)
  kind_read x left rest h = sym kind_is ∙ ap (along (seen (λ x. Some (variant x)))) h

  pub kind_fails : (e : Fault) → Fails e (f.at n bytes) → Fails e (kind_at (Some (message number f variant)) n bytes)
  kind_fails e h = Fails-same e _ _ (Fails-along e (seen (λ x. Some (variant x))) (f.at n bytes) h) kind_is
