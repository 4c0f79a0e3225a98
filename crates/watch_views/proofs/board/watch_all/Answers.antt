use Rattle.std.proofs.Common.{arith, refl}
use Rattle.watch_views.proofs.BoardLemmas.{mapped_more}
use Rattle.watch_views.proofs.board.watch_all.Goals as goal

pub loop-i-preserved : goal.loop-i-preserved
loop-i-preserved g c =
    mapped_more _ c.args.shelves.now.items c.loop-i.shelves.items c.loop-i.i c.index_mut.result.now _ (omega (arith, c.loop-i-test.true, c.len-i-end.ensures)) c.loop-i.invariant c.index_mut.ensures.value refl
