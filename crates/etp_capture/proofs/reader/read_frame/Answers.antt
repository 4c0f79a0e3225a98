use Rattle.etp_outside.proofs.ToldLemmas.{told_trans}
use Rattle.etp_capture.specs.Found.{found, body_found}
use Rattle.etp_capture.proofs.TakenLemmas.{shows_behind, head_behind}
use Rattle.etp_capture.proofs.reader.read_frame.Goals as goal

pub returns-in-Err-read_body-clause-bytes : goal.returns-in-Err-read_body-clause-bytes
returns-in-Err-read_body-clause-bytes g c =
    let head = c.in-Ok-Some.head in
    let fits = rw c.in-Ok-Some.field-0-is at c.in-Ok-Some.ensures.fits in
    let good = rw c.in-Ok-Some.field-0-is at c.in-Ok-Some.ensures.head in
    let read = rw c.in-Ok-Some.field-0-is at c.in-Ok-Some.ensures.bytes in
    told_trans _ _ _ _ _ _
    (λ xs ys zs is h. shows_behind c.in-Err-read_body.e head (body_found c.args.at head) (found c.args.at) xs ys zs (λ rest. head_behind c.args.at head rest good fits) is.0 h)
    read c.in-Err-read_body.ensures.bytes
