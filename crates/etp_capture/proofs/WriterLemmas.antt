-- What a writer writes: two pieces, one after the other.
use Rattle.std.proofs.Common.{◌≢◌, ℕ, ◌+◌, ◌<◌, List, ◌++◌, length, take, refl, sym, subst, arith, length-append, Result, Ok, Err, Option}
use Rattle.std.specs.Io.KnownBytes.{Appends}
use Rattle.std.proofs.KnownBytes.{Appends-trans}
use Rattle.std.proofs.Math.Seq.{take-append-add}
use Rattle.etp_capture.specs.Writer.{Puts}
use Rattle.etp_capture.specs.declared.writer.PutError.{PutError}
use Rattle.etp_capture.specs.declared.writer.PutError.TheVariants.{WriteFault, NoMemory}

-- the second piece after the first
pub puts_behind : {U : Type 0} (r : Result U PutError) (a b : List ℕ) (old mid new : Option (List ℕ)) → r ≢ Err NoMemory → Appends old mid a → Puts r b mid new → Puts r (a ++ b) old new
puts_behind (Ok u) a b old mid new never first then_b = Appends-trans old mid new a b first then_b
puts_behind (Err WriteFault) a b old mid new never first then_b =
    let n = then_b.0 in
    let below : length a + n < length (a ++ b) = simp length-append (omega (arith, then_b.1)) in
    (length a + n, below, subst (Appends old new) (sym (take-append-add a b n)) (Appends-trans old mid new a (take n b) first then_b.2))
puts_behind (Err NoMemory) a b old mid new never first then_b = absurd (never refl)
