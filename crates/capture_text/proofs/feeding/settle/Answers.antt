use Rattle.capture_text.proofs.FeedingLemmas.{checks_whole}
use Rattle.capture_text.proofs.feeding.settle.Goals as goal

pub returns-in-Whole : goal.returns-in-Whole
returns-in-Whole c = checks_whole c.args.sender c.args.bytes.now (c.requires c.in-Whole.is)
