use Rattle.std.proofs.Common.{sym, ◌∙◌, arith}
use Rattle.channel_store.specs.Sweeps.{add_item}
use Rattle.channel_store.proofs.RowLemmas.{steps-next, steps-stop, steps-end}
use Rattle.channel_store.proofs.rows.add_items.Goals as goal

pub returns-in-Err-clause-answer : goal.returns-in-Err-clause-answer
returns-in-Err-clause-answer c =
    let rows = c.loop-item.tracks.items in
    λ m. sym c.loop-item.invariant.answer ∙ steps-stop (add_item) rows c.args.items.now c.loop-item.item-index c.item-item.result c.in-Err.error (omega arith) c.item-item.is (c.in-Err.ensures.answer m)

pub loop-item-preserved : goal.loop-item-preserved
loop-item-preserved c = record {
  answer = steps-next (add_item) c.loop-item.tracks.items c.add_item.new.tracks.items c.args.items.now c.loop-item.item-index c.item-item.result (omega arith) c.item-item.is c.in_default.ensures.answer ∙ c.loop-item.invariant.answer;
  kept = c.add_item.ensures.kept ∙ c.loop-item.invariant.kept;
}

pub returns-clause-answer : goal.returns-clause-answer
returns-clause-answer c = sym c.loop-item.invariant.answer ∙ steps-end (add_item) c.loop-item.tracks.items c.args.items.now c.loop-item.item-index (omega arith)
