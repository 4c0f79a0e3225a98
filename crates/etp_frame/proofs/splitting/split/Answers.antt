use Rattle.etp_frame.proofs.PartLemmas.{answered_whole}
use Rattle.etp_frame.proofs.splitting.split.Goals as goal

pub returns-clause-whole : goal.returns-clause-whole
returns-clause-whole c = answered_whole c.parts_of.result c.args.limit c.args.number c.args.blobs c.args.message c.parts_of.ensures
