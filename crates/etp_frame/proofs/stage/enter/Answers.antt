use Rattle.std.proofs.Common.{[], sym, append-nil, drop}
use Rattle.etp_frame.proofs.FeedingLemmas.{place_there}
use Rattle.etp_frame.proofs.stage.enter.Goals as goal

pub read_on-requires-clause-stood : goal.read_on-requires-clause-stood
read_on-requires-clause-stood c =
    let there = place_there c.args.sender c.args.table.now.nodes.now c.args.front c.args.bytes.items c.requires.profile c.requires.front in
    record {
      before = c.args.bytes.items;
      since = [];
      parts = sym (append-nil c.args.bytes.items);
      begins = c.requires.front;
      stood = (c.in-Ok.ensures.place, c.in-Ok.ensures.stands c.args.table.now.nodes.now there (drop c.args.front.length c.args.bytes.items));
    }
