-- Messages that are refused report no change.
use Rattle.std.proofs.Common.{◌≡◌, ◌≢◌, ℕ, Bool, false, ap, sym, ◌∙◌, Result, Ok, Err, IfOk}
use Rattle.avro_bin.specs.Value.{Value}
use Rattle.etp_values.specs.declared.memory.NoMemory.{NoMemory}
use Rattle.etp_frame.specs.declared.header.Header.{Header}
use Rattle.etp_frame.specs.declared.error.FrameError.{FrameError}
use Rattle.etp_frame.specs.declared.error.FrameError.TheVariants as refused
use Rattle.load_forms.specs.Tally.{change_in}

pub no_change_in : (r : Result Bool NoMemory) (e : FrameError) (read : Result (Header × (ℕ × Value)) FrameError) → IfOk r (λ b. (b ≡ false) × (e ≢ refused.NoMemory)) → (e ≢ refused.NoMemory → read ≡ Err e)
    → IfOk r (λ b. b ≡ change_in read)
no_change_in (Ok b) e read is expected = is.0 ∙ sym (ap change_in (expected is.1))
no_change_in (Err m) e read is expected = tt
