use Rattle.std.proofs.Common.{◌≡◌, ◌+◌, ◌∷◌, drop, arith, rules}
use Rattle.channel_store.proofs.RowLemmas.{drop-here}
use Rattle.channel_store.proofs.TableLemmas.{ids_next}
use Rattle.channel_store.proofs.tracks.ids_by_uri.Goals as goal

pub loop-place-preserved : goal.loop-place-preserved
loop-place-preserved c =
    let n = c.loop-place.place in
    let defs = c.args.defs.now in
    let d = c.index-defs-place.result in
    let split : drop n defs ≡ d ∷ drop (n + 1) defs = drop-here defs n d (search (arith, rules)) c.index-defs-place.is in
    ids_next c.loop-place.ids.entries c.put_id.new.ids.entries n (n + 1) _ d (drop n defs) (drop (n + 1) defs) defs c.loop-place.invariant split (omega arith) (search (arith, rules)) c.in_ok-put_id.ensures
