use Rattle.etp_values.proofs.UriPartLemmas.{after_gives}
use Rattle.etp_values.proofs.uri.reading.after.Goals as goal

pub returns : goal.returns
returns c = after_gives c.args.prefix.now c.args.text.now c.strip_prefix.result c.strip_prefix.ensures.cases
