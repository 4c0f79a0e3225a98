use Rattle.channel_store.proofs.CopyLemmas.{copy-stream}
use Rattle.channel_store.proofs.laws.copy_is_points.Goals as goal

pub returns : goal.returns
returns c = copy-stream
