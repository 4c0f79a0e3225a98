use Rattle.std.proofs.Common.{arith, ◌≡◌, length}
use Rattle.watch_views.proofs.BoardLemmas.{fed_length, fed_next, fed_stop, fed_all}
use Rattle.watch_views.proofs.board.feed_all.Goals as goal

pub returns-in-Err : goal.returns-in-Err
returns-in-Err g c =
    let long : length c.loop-i.shelves.items ≡ length c.args.shelves.now.items = fed_length _ _ _ _ _ c.loop-i.invariant in
    (c.loop-i.i, fed_stop _ _ _ _ _ c.index_mut.result.now c.feed_one.new.shelf (omega (arith, long)) c.index_mut.ensures.value c.loop-i.invariant c.in-Err.ensures)

pub loop-i-preserved : goal.loop-i-preserved
loop-i-preserved g c =
    let long : length c.loop-i.shelves.items ≡ length c.args.shelves.now.items = fed_length _ _ _ _ _ c.loop-i.invariant in
    fed_next _ c.loop-i.i _ _ _ c.index_mut.result.now c.feed_one.new.shelf (omega (arith, long)) c.index_mut.ensures.value c.loop-i.invariant c.in_default.ensures

pub returns : goal.returns
returns g c =
    let long : length c.loop-i.shelves.items ≡ length c.args.shelves.now.items = fed_length _ _ _ _ _ c.loop-i.invariant in
    fed_all _ c.loop-i.i _ _ _ (omega (arith, long)) c.loop-i.invariant
