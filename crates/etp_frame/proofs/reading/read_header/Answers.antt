use Rattle.etp_frame.proofs.TypedLemmas.{header_read, header_refused}
use Rattle.etp_frame.proofs.reading.read_header.Goals as goal

pub returns-in-Ok-clause-gives : goal.returns-in-Ok-clause-gives
returns-in-Ok-clause-gives c =
    let read = c.in-Ok.ensures.reads in
    header_read c.args.bytes.now c.in-Ok.front read.0 read.1 read.2

pub returns-in-Err-clause-gives : goal.returns-in-Err-clause-gives
returns-in-Err-clause-gives c =
    header_refused c.args.bytes.now c.in-Err.refusal c.header_error.result c.header_error.ensures c.in-Err.ensures.reads
