use Rattle.etp_frame.proofs.GroupLemmas.{joined_all}
use Rattle.etp_frame.proofs.grouping.total.Goals as goal

pub returns : goal.returns
returns g c =
    let i = c.loop-item.invariant in
    joined_all g.M.Measuring.amount c.loop-item.sum _ c.loop-item.item-index c.args.items.now c.loop-item-test.false i.bytes i.nodes i.rest
