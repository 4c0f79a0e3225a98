use Rattle.etp_values.proofs.UriPartLemmas.{parted_gives}
use Rattle.etp_values.proofs.uri.reading.parted.Goals as goal

pub returns : goal.returns
returns c = parted_gives c.args.mark c.args.text.now c.split_once.result c.split_once.ensures.cases c.requires
