use Rattle.std.proofs.lemmas.Result.{err_from_is_err_and}
use Rattle.etp_schema.proofs.WritingLemmas.{grown}
use Rattle.etp_schema.proofs.record_fields.Tuple2RefWriteFields.write.Goals as goal

pub returns-in_err-write-2-clause-written : goal.returns-in_err-write-2-clause-written
returns-in_err-write-2-clause-written g c =
    let p = err_from_is_err_and c.from_residual-in_err-write-2.result c.from_residual-in_err-write-2.ensures.1 in
    rw p.1 (grown _ _ _ _ c.in_ok-write.ensures.written c.in_err-write-2.ensures.written)
