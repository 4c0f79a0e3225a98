use Rattle.std.proofs.Common.{ap, ◌∙◌, arith}
use Rattle.channel_store.specs.Refusals.{verdict}
use Rattle.channel_store.specs.Sweeps.{item_refusal_in}
use Rattle.channel_store.proofs.RowLemmas.{refusal-next, refusal-stop, refusal-end}
use Rattle.channel_store.proofs.checks.check_items.Goals as goal

pub returns-in-Err : goal.returns-in-Err
returns-in-Err c =
    ap verdict (refusal-stop (item_refusal_in c.args.tracks.now) c.args.items.now c.loop-item.item-index c.item-item.result c.in-Err.error (omega arith) c.item-item.is (c.in-Err.ensures) ∙ c.loop-item.invariant)

pub loop-item-preserved : goal.loop-item-preserved
loop-item-preserved c =
    refusal-next (item_refusal_in c.args.tracks.now) c.args.items.now c.loop-item.item-index c.item-item.result c.in_default.field-0 (omega arith) c.item-item.is (c.in_default.ensures) ∙ c.loop-item.invariant

pub returns : goal.returns
returns c =
    ap verdict (refusal-end (item_refusal_in c.args.tracks.now) c.args.items.now c.loop-item.item-index (omega arith) ∙ c.loop-item.invariant)
