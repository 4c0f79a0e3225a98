use Rattle.std.proofs.Common.{arith}
use Rattle.std.proofs.lemmas.Grind.{common_steps}
use Rattle.std.proofs.lemmas.Int.{to_z-of_z}
use Rattle.channel_points.proofs.ReadLemmas.{last_of-get}
use Rattle.channel_points.proofs.reads.last_index.Goals as goal

pub returns-in-Some : goal.returns-in-Some
returns-in-Some c = grind (arith, common_steps, to_z-of_z, last_of-get c.args.points.now, c.last.ensures.value)
