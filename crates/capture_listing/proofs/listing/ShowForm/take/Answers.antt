use Rattle.capture_listing.proofs.ListingLemmas.{shows_frame}
use Rattle.capture_listing.proofs.listing.ShowForm.take.Goals as goal

pub returns-in-Ok-clause-taken : goal.returns-in-Ok-clause-taken
returns-in-Ok-clause-taken c fs stands place =
    shows_frame c.args.offset c.args.frame.now c.args.into.now.items c.show_frame.new.into.items c.in-Ok.ensures fs place
