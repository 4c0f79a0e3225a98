-- A reader that has read the magic.
use Rattle.std.proofs.Common.{◌≡◌, ℕ, List, ◌++◌, ap, ◌∙◌, subst, None, Result, Ok}
use Rattle.std.specs.declared.option.Option.{Option}
use Rattle.etp_outside.specs.Told.{Told}
use Rattle.etp_outside.proofs.ToldLemmas.{told_weaker}
use Rattle.etp_capture.specs.Frames.{magic}
use Rattle.etp_capture.specs.Reader.{Reader, Begins, begun}
use Rattle.etp_capture.specs.declared.reader.CaptureError.{CaptureError}

pub magic_told : {U : Type 0} (r : Reader) (x : Result U CaptureError) (u : U) (a b : Option (List ℕ)) → r ≡ record { at = 0; failed = None } → x ≡ Ok u → (r.failed ≡ None → Told a b (Begins x r.at)) → Told a b (λ xs ys. xs ≡ magic ++ ys)
magic_told {U} r x u a b new ok read =
    let told : Told a b (Begins x r.at) = read (ap (λ (q : Reader). q.failed) new) in
    let at_begin : Told a b (Begins x 0) = subst (λ (n : ℕ). Told a b (Begins x n)) (ap (λ (q : Reader). q.at) new) told in
    told_weaker a b _ _ (λ xs ys e. e) (subst (λ (y : Result U CaptureError). Told a b (Begins y 0)) ok at_begin)

pub begun_reader : {U : Type 0} (r r' : Reader) (x : Result U CaptureError) (u : U) → r ≡ record { at = 0; failed = None } → x ≡ Ok u → r' ≡ begun r x → r' ≡ record { at = 8; failed = None }
begun_reader {U} r r' x u new ok state = state ∙ ap (λ (y : Result U CaptureError). begun r y) ok ∙ ap (λ (q : Reader). begun q (Ok u)) new
