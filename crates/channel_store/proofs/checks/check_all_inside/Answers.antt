use Rattle.std.proofs.Common.{◌≡◌, ap, ◌∙◌, arith, w64, to_z, of_z}
use Rattle.std.proofs.lemmas.Int.{to_z-of_z}
use Rattle.channel_store.specs.Refusals.{first_refusal, verdict}
use Rattle.channel_store.specs.Sweeps.{inside_refusal_in}
use Rattle.channel_store.proofs.RowLemmas.{refusal-next, refusal-stop, refusal-end}
use Rattle.channel_store.proofs.checks.check_all_inside.Goals as goal

pub returns-in-Err : goal.returns-in-Err
returns-in-Err c =
    let from : to_z w64 (of_z w64 c.args.from) ≡ c.args.from = to_z-of_z w64 c.args.from c.ranges.from in
    let to : to_z w64 (of_z w64 c.args.to) ≡ c.args.to = to_z-of_z w64 c.args.to c.ranges.to in
    ap verdict (refusal-stop (inside_refusal_in c.args.tracks.now (to_z w64 (of_z w64 c.args.from)) (to_z w64 (of_z w64 c.args.to))) c.args.items.now c.loop-item.item-index c.item-item.result c.in-Err.error (omega arith) c.item-item.is (c.in-Err.ensures) ∙ c.loop-item.invariant ∙ (λ j. first_refusal (inside_refusal_in c.args.tracks.now (from j) (to j)) c.args.items.now))

pub loop-item-preserved : goal.loop-item-preserved
loop-item-preserved c =
    refusal-next (inside_refusal_in c.args.tracks.now (to_z w64 (of_z w64 c.args.from)) (to_z w64 (of_z w64 c.args.to))) c.args.items.now c.loop-item.item-index c.item-item.result c.in_default.field-0 (omega arith) c.item-item.is (c.in_default.ensures) ∙ c.loop-item.invariant

pub returns : goal.returns
returns c =
    let from : to_z w64 (of_z w64 c.args.from) ≡ c.args.from = to_z-of_z w64 c.args.from c.ranges.from in
    let to : to_z w64 (of_z w64 c.args.to) ≡ c.args.to = to_z-of_z w64 c.args.to c.ranges.to in
    ap verdict (refusal-end (inside_refusal_in c.args.tracks.now (to_z w64 (of_z w64 c.args.from)) (to_z w64 (of_z w64 c.args.to))) c.args.items.now c.loop-item.item-index (omega arith) ∙ c.loop-item.invariant ∙ (λ j. first_refusal (inside_refusal_in c.args.tracks.now (from j) (to j)) c.args.items.now))
