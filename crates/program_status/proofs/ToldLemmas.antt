-- What was written for a status, by what came of writing it.
use Rattle.std.specs.Prelude.{IfOk, IfErr, IsOk}
use Rattle.std.proofs.Common.{◌≡◌, ℕ, List, Option, Result, Ok, Err, inl, inr, refl, ap}
use Rattle.std.proofs.lemmas.Bool.{false≢true}
use Rattle.etp_outside.specs.Faults.{Rose}
use Rattle.etp_outside.specs.Whole.{WritesAll}
use Rattle.etp_outside.specs.declared.status.Status.{Status}
use Rattle.etp_outside.specs.declared.status.Status.TheVariants as status
use Rattle.etp_outside.specs.declared.whole.Written.{Written}
use Rattle.etp_outside.specs.declared.whole.Written.TheVariants as written
use Rattle.etp_values.specs.declared.memory.NoMemory.{NoMemory}
use Rattle.program_status.specs.Told.{IsTold}

module _ {S : Type 0} (held : S → Option (List ℕ)) (faults : S → ℕ) (old new : S) (st : Status) (text : List ℕ) where
  pub is_told : (r : Result Written NoMemory) → IfOk r (λ w. WritesAll w text (held old) (held new)) → IfOk r (λ w. w ≡ written.Failed → Rose (faults old) (faults new))
      → IfErr r (λ e. new ≡ old) → (st ≡ status.NoMemory → IsOk r) → IsTold st text (held old) (held new) (faults old) (faults new)
  is_told (Ok written.Done) bytes cause untold memory = inl bytes
  is_told (Ok written.Failed) bytes cause untold memory = inr (inl (bytes, cause refl))
  is_told (Err e) bytes cause untold memory = inr (inr (ap held untold, λ is. false≢true (memory is)))
