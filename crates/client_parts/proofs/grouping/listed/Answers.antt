use Rattle.std.proofs.Common.{arith}
use Rattle.std.proofs.lemmas.Grind.{common_steps}
use Rattle.std.proofs.lemmas.Int.{to_z-of_z}
use Rattle.client_parts.proofs.GroupLemmas.{listed_more}
use Rattle.client_parts.proofs.grouping.listed.Goals as goal

pub loop-channel-preserved : goal.loop-channel-preserved
loop-channel-preserved c =
    λ q. listed_more c.args.channels.now c.loop-channel.channel-index q _ c.none.result _ _ _ c.loop-channel-test.true (c.in_ok-insert.ensures.updates.0 q) (grind (arith, common_steps, to_z-of_z)) c.none.ensures (c.loop-channel.invariant q)
