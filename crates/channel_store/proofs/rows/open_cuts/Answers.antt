use Rattle.std.proofs.Common.{◌≡◌, ◌+◌, sym, ap, ◌∙◌, arith, drop, get_or, w64, to_z, of_z}
use Rattle.std.proofs.lemmas.Grind.{common_steps}
use Rattle.std.proofs.lemmas.Int.{to_z-of_z}
use Rattle.std.specs.Prelude.{pos, zip}
use Rattle.channel_store.specs.Sweeps.{steps, open_cut}
use Rattle.channel_store.proofs.RowLemmas.{zip-at, zip-end, steps-next-at, steps-stop-at}
use Rattle.channel_store.proofs.rows.open_cuts.Goals as goal

pub returns-in-Err-clause-answer : goal.returns-in-Err-clause-answer
returns-in-Err-clause-answer c =
    let ids = c.args.channels.now in
    let ends = c.args.ends.now in
    let n = c.loop-place.place in
    let id = get_or ids n (pos 0) in
    let end = get_or ends n (pos 0) in
    let rows = c.loop-place.tracks.items in
    let same : to_z w64 (of_z w64 id) ≡ id = grind (arith, common_steps, to_z-of_z) in
    let last : to_z w64 (of_z w64 end) ≡ end = grind (arith, common_steps, to_z-of_z) in
    let here = zip-at ids ends n (pos 0) c.loop-place.invariant.same c.loop-place-test.true in
    λ m. sym c.loop-place.invariant.answer ∙ steps-stop-at open_cut rows (drop n (zip ids ends)) (drop (n + 1) (zip ids ends)) (id, end) c.in-Err.error here ((λ j. open_cut rows (sym same j, sym last j)) ∙ c.in-Err.ensures.answer m)

pub loop-place-preserved : goal.loop-place-preserved
loop-place-preserved c =
    let ids = c.args.channels.now in
    let ends = c.args.ends.now in
    let n = c.loop-place.place in
    let id = get_or ids n (pos 0) in
    let end = get_or ends n (pos 0) in
    let rows = c.loop-place.tracks.items in
    let same : to_z w64 (of_z w64 id) ≡ id = grind (arith, common_steps, to_z-of_z) in
    let last : to_z w64 (of_z w64 end) ≡ end = grind (arith, common_steps, to_z-of_z) in
    let here = zip-at ids ends n (pos 0) c.loop-place.invariant.same c.loop-place-test.true in
    record {
      answer = steps-next-at open_cut rows c.open_cut.new.tracks.items (drop n (zip ids ends)) (drop (n + 1) (zip ids ends)) (id, end) here ((λ j. open_cut rows (sym same j, sym last j)) ∙ c.in_default.ensures.answer) ∙ c.loop-place.invariant.answer;
      kept = c.open_cut.ensures.kept ∙ c.loop-place.invariant.kept;
      same = c.loop-place.invariant.same;
    }

pub returns-clause-answer : goal.returns-clause-answer
returns-clause-answer c = sym c.loop-place.invariant.answer ∙ ap (steps open_cut c.loop-place.tracks.items) (zip-end c.args.channels.now c.args.ends.now c.loop-place.place c.loop-place-test.false)
