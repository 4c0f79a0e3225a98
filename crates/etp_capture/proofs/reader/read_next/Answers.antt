use Rattle.etp_outside.proofs.ToldLemmas.{told_trans, told_weaker}
use Rattle.etp_capture.proofs.TakenLemmas.{answers_first, magic_shows}
use Rattle.etp_capture.proofs.reader.read_next.Goals as goal

pub returns-in-Ok-clause-bytes : goal.returns-in-Ok-clause-bytes
returns-in-Ok-clause-bytes g c =
    told_trans _ _ _ _ _ _ (λ xs ys zs is h. answers_first c.read_frame-in-Ok.result c.args.at xs ys zs c.if-at-ge-FIRST_PLACE.false is h) c.in-Ok.ensures.bytes c.read_frame-in-Ok.ensures.bytes

pub returns-in-Err-clause-bytes : goal.returns-in-Err-clause-bytes
returns-in-Err-clause-bytes g c =
    told_weaker _ _ _ _ (λ xs ys h. magic_shows c.in-Err.e c.args.at xs ys c.if-at-ge-FIRST_PLACE.false c.in-Err.ensures.errors h) c.in-Err.ensures.bytes
