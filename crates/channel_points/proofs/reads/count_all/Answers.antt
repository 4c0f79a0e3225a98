use Rattle.std.proofs.Common.{[], arith}
use Rattle.channel_points.proofs.ReadLemmas.{count-next, size-at}
use Rattle.channel_points.proofs.reads.count_all.Goals as goal

pub overflow_add-count : goal.overflow_add-count
overflow_add-count c =
    let l = c.loop-block in
    let all = size-at c.args.sealed.now [] l.block-index c.block-item.result (omega arith) c.block-item.is in
    omega (arith, all, c.len-count.ensures, l.invariant, c.requires)

pub loop-block-preserved : goal.loop-block-preserved
loop-block-preserved c =
    let l = c.loop-block in
    let next = count-next c.args.sealed.now l.block-index c.block-item.result (omega arith) c.block-item.is in
    omega (arith, next, c.len-count.ensures, l.invariant)
