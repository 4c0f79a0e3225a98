use Rattle.std.proofs.Common.{arith, Some, ◌≡◌, ◌++◌, List, [], ◌∷◌, ℕ, drop, sym, ◌∙◌, length-take-le, length, length-append, length-drop}
use lib.Seq.{take-append-le}
use Rattle.etp_outside.proofs.ToldLemmas.{told_weaker}
use Rattle.etp_capture.specs.Reader.{TakesUp}
use Rattle.etp_capture.proofs.FoundLemmas.{head_ok, head_err}
use Rattle.etp_capture.proofs.TakenLemmas.{shows_bad, head_unread}
use Rattle.etp_capture.proofs.reader.read_head.Goals as goal

abbrev zeros : List ℕ
zeros = 0 ∷ 0 ∷ 0 ∷ 0 ∷ 0 ∷ 0 ∷ 0 ∷ 0 ∷ 0 ∷ 0 ∷ 0 ∷ 0 ∷ 0 ∷ 0 ∷ 0 ∷ 0 ∷ 0 ∷ []

pub returns-in-Ok-clause-bytes : goal.returns-in-Ok-clause-bytes
returns-in-Ok-clause-bytes g c =
    let buf = c.read_up.new.buf in
    let size : length buf ≡ c.min-want.result = c.read_up.auto.buf ∙ length-take-le c.min-want.result zeros (omega arith) in
    let got = c.in-Some.got in
    let same = take-append-le got buf (drop c.min-want.result zeros) c.in-Some.ensures.within in
    let long : length (buf ++ drop c.min-want.result zeros) ≡ 17 = simp (length-append, length-drop) (omega arith) in
    told_weaker _ _ _ _ (λ xs ys e. head_ok c.args.at got _ buf xs ys c.in-Ok.ensures.fits.0 long (sym same) e.0 (c.in-Ok.ensures.bytes ys (λ within short. e.1 (omega arith)))) c.in-Some.ensures.bytes

pub returns-in-Err-clause-bytes : goal.returns-in-Err-clause-bytes
returns-in-Err-clause-bytes g c =
    let buf = c.read_up.new.buf in
    let size : length buf ≡ c.min-want.result = c.read_up.auto.buf ∙ length-take-le c.min-want.result zeros (omega arith) in
    let got = c.in-Some.got in
    let same = take-append-le got buf (drop c.min-want.result zeros) c.in-Some.ensures.within in
    told_weaker _ _ _ _ (λ (xs ys : List ℕ) (e : TakesUp (Some got) buf xs ys). shows_bad _ c.in-Err.e _ xs ys c.in-Err.is c.head_fault.ensures.only (head_err c.in-Err.e c.args.at got _ buf xs ys (sym same) e.0 (c.in-Err.ensures.bytes ys (λ within short. e.1 (omega arith))))) c.in-Some.ensures.bytes

pub returns-in-None-clause-bytes : goal.returns-in-None-clause-bytes
returns-in-None-clause-bytes g c =
    let size : length c.read_up.new.buf ≡ c.min-want.result = c.read_up.auto.buf ∙ length-take-le c.min-want.result zeros (omega arith) in
    told_weaker _ _ _ _ (λ xs ys e. head_unread c.args.at (length c.read_up.new.buf) xs ys (omega arith) e) c.in-None.ensures.bytes
