use Rattle.std.proofs.Common.{refl}
use Rattle.etp_frame.proofs.FeedingLemmas.{says_short}
use Rattle.etp_frame.proofs.stage.passed_body.Goals as goal

pub returns-in-More : goal.returns-in-More
returns-in-More c =
    let short = rw c.in-More.is at c.requires.passes in
    record {
      says = says_short c.args.sender c.args.front c.args.bytes.items c.requires.front short;
      has = refl;
      stands = (c.requires.front, c.requires.stands);
    }
