use Rattle.std.proofs.Common.{arith}
use Rattle.etp_values.proofs.WeightLemmas.{weigh-plain}
use Rattle.etp_values.proofs.weight.plain_list.Goals as goal

pub returns : goal.returns
returns g c = omega (arith, weigh-plain c.args.items.now)
