use Rattle.std.proofs.Common.{◌<◌, ◌≤◌, ◌+◌, ◌-◌, ◌/◌, length, sym, ◌∙◌, arith}
use Rattle.channel_points.proofs.ReadLemmas.{pass-more}
use Rattle.channel_points.proofs.reads.blocks_before.Goals as goal

pub loop-low-preserved-then-ends_before : goal.loop-low-preserved-then-ends_before
loop-low-preserved-then-ends_before c =
    let l = c.loop-low in
    let sealed = c.args.sealed.now in
    let middle = l.low + (l.high - l.low) / 2 in
    let within : l.high ≤ length sealed = l.invariant.within in
    let below : middle < l.high = omega arith in
    record {
      before = pass-more c.args.ends _ sealed middle c.index-sealed-middle.result c.requires (omega arith) c.index-sealed-middle.is (sym c.ends_before.ensures ∙ c.if-ends_before.true);
      ordered = omega arith;
      within = within;
    }
