use Rattle.etp_capture.proofs.WriterLemmas.{puts_behind}
use Rattle.etp_capture.proofs.writer.put_parts.Goals as goal

pub returns-in-Ok-clause-bytes : goal.returns-in-Ok-clause-bytes
returns-in-Ok-clause-bytes g c =
    puts_behind c.put_piece-in-Ok.result c.args.head.now c.args.bytes.now _ _ _ c.put_piece-in-Ok.ensures.memory c.in-Ok.ensures.bytes c.put_piece-in-Ok.ensures.bytes
