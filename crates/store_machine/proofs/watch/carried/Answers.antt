use Rattle.std.proofs.Common.{arith}
use Rattle.store_machine.proofs.WatchLemmas.{carried_on}
use Rattle.store_machine.proofs.watch.carried.Goals as goal

pub returns : goal.returns
returns c =
    let a = c.args in
    let w = a.watch.now in
    carried_on a.channels.now a.followed.now w.from a.from w.mark a.mark w.lag c.in_ok-passed.passed c.in_ok-added.added c.saturating_sub.result c.saturating_add.result
    c.requires.begun c.requires.inside c.requires.within (omega arith) c.requires.known c.in_ok-passed.ensures c.in_ok-added.ensures c.saturating_sub.ensures c.saturating_add.ensures
