use Rattle.std.proofs.Common.{◌≡◌, sym, ap, ◌∙◌, get_or, slice_set}
use Rattle.std.proofs.Common.{add-one}
use Rattle.channel_store.specs.Rows.{cleared}
use Rattle.channel_store.proofs.RowLemmas.{cleared_first, cleared-next, cleared-end}
use Rattle.channel_store.proofs.rows.clear_each.Goals as goal

pub loop-track-preserved : goal.loop-track-preserved
loop-track-preserved c =
    let rows = c.args.tracks.now in
    let n = c.loop-track.track-index in
    let r = c.track-item.result in
    let cleared_so : c.loop-track.tracks ≡ cleared_first n rows = c.loop-track.invariant in
    let at : r ≡ get_or (cleared_first n rows) n r = c.track-item.is ∙ ap (λ l. get_or l n r) cleared_so in
    let new : c.clear.new.self ≡ cleared r = c.clear.ensures ∙ ap cleared (sym c.track-item.is) in
    (λ j. slice_set (cleared_so j) n (new j)) ∙ cleared-next n rows r c.loop-track-test.true at ∙ ap (λ k. cleared_first k rows) (sym (add-one n))

pub returns : goal.returns
returns c = c.loop-track.invariant ∙ cleared-end c.loop-track.track-index c.args.tracks.now c.loop-track-test.false
