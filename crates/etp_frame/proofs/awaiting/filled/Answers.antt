use Rattle.etp_frame.proofs.PlaceLemmas.{set_filled}
use Rattle.etp_frame.proofs.awaiting.filled.Goals as goal

pub returns : goal.returns
returns c = set_filled c.args.place c.args.payload c.args.objects.items c.index_mut.result.now c.requires c.index_mut.ensures.value
