use Rattle.channel_rows.proofs.FlagLemmas.{flags_more, length_more}
use Rattle.channel_rows.proofs.open_flags.extend.Goals as goal

pub loop-len-preserved : goal.loop-len-preserved
loop-len-preserved c = record {
  len = length_more _ _ _ c.loop-len.invariant.len c.in_ok-push.ensures.items;
  flags = flags_more _ _ _ _ _ c.loop-len.invariant.len c.loop-len-test.true c.in_ok-push.ensures.items c.loop-len.invariant.flags;
}
