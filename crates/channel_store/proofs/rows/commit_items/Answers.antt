use Rattle.std.proofs.Common.{◌≡◌, ◌+◌, sym, ap, ◌∙◌, arith, drop, w64, to_z, of_z}
use Rattle.std.proofs.lemmas.Grind.{common_steps}
use Rattle.std.proofs.lemmas.Int.{to_z-of_z}
use Rattle.channel_store.specs.Rows.{done}
use Rattle.channel_store.specs.Sweeps.{all_done, ids_of, modify_at}
use Rattle.channel_store.proofs.RowLemmas.{done-first, done-none, drop-here, drop-end}
use Rattle.channel_store.proofs.rows.commit_items.Goals as goal

pub loop-item-preserved : goal.loop-item-preserved
loop-item-preserved c =
    let rows = c.loop-item.tracks.items in
    let items = c.args.items.now in
    let n = c.loop-item.item-index in
    let item = c.item-item.result in
    let same : to_z w64 (of_z w64 item.channel) ≡ item.channel = grind (arith, common_steps, to_z-of_z) in
    let at = to_z w64 (of_z w64 c.args.at) in
    record {
      done = ap (all_done c.args.place at (ids_of (drop (n + 1) items))) (c.commit.ensures.done ∙ (λ j. modify_at (same j) (done c.args.place (same j) at) rows))
          ∙ sym (done-first c.args.place at item.channel (ids_of (drop (n + 1) items)) rows)
          ∙ ap (λ l. all_done c.args.place at (ids_of l) rows) (sym (drop-here items n item (omega arith) c.item-item.is))
          ∙ c.loop-item.invariant.done;
      due = c.commit.ensures.due;
      appending = c.commit.ensures.appending;
    }

pub returns : goal.returns
returns c =
    let rows = c.loop-item.tracks.items in
    let at = to_z w64 (of_z w64 c.args.at) in
    let moment : at ≡ c.args.at = to_z-of_z w64 c.args.at c.ranges.at in
    sym (done-none c.args.place at rows)
    ∙ ap (λ l. all_done c.args.place at (ids_of l) rows) (sym (drop-end c.args.items.now c.loop-item.item-index (omega arith)))
    ∙ c.loop-item.invariant.done
    ∙ (λ j. all_done c.args.place (moment j) (ids_of c.args.items.now) c.args.tracks.now.items)
