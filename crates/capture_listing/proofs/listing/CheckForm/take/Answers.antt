use Rattle.capture_listing.proofs.ListingLemmas.{checks_frame}
use Rattle.capture_listing.proofs.listing.CheckForm.take.Goals as goal

pub returns-in-Ok-clause-taken : goal.returns-in-Ok-clause-taken
returns-in-Ok-clause-taken c fs counts place =
    checks_frame c.args.offset c.args.frame.now c.in-Ok.checked c.args.self.now.counts c.count.new.counts c.args.into.now.items c.check_frame.new.into.items c.in-Ok.ensures.0 c.count.ensures c.in-Ok.ensures.1 fs counts place
