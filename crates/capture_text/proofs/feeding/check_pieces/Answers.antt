use Rattle.capture_text.proofs.FeedingLemmas.{checks_cause}
use Rattle.capture_text.proofs.feeding.check_pieces.Goals as goal

pub returns-in-Err : goal.returns-in-Err
returns-in-Err c = checks_cause c.args.sender c.args.bytes.now c.in-Err.error c.in-Err.ensures.refuses
