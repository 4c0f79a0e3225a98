use Rattle.std.proofs.Common.{◌≡◌, ◌+◌, sym, ◌∙◌, arith, drop, get_or, w64, to_z, of_z}
use Rattle.std.proofs.lemmas.Grind.{common_steps}
use Rattle.std.proofs.lemmas.Int.{to_z-of_z}
use Rattle.std.specs.Prelude.{pos}
use Rattle.channel_store.specs.Sweeps.{open_channel}
use Rattle.channel_store.proofs.RowLemmas.{drop-here, get_or-any, steps-next-at, steps-stop-at, steps-end}
use Rattle.channel_store.proofs.rows.open_channels.Goals as goal

pub returns-in-Err-clause-answer : goal.returns-in-Err-clause-answer
returns-in-Err-clause-answer c =
    let ids = c.args.channels.now in
    let n = c.loop-channel.channel-index in
    let id = get_or ids n (pos 0) in
    let rows = c.loop-channel.tracks.items in
    let same : to_z w64 (of_z w64 id) ≡ id = grind (arith, common_steps, to_z-of_z) in
    let here = drop-here ids n id c.loop-channel-test.true (get_or-any ids n (pos 0) id c.loop-channel-test.true) in
    λ m. sym c.loop-channel.invariant.answer ∙ steps-stop-at (open_channel c.args.way) rows (drop n ids) (drop (n + 1) ids) id c.in-Err.error here ((λ j. open_channel c.args.way rows (sym same j)) ∙ c.in-Err.ensures.answer m)

pub loop-channel-preserved : goal.loop-channel-preserved
loop-channel-preserved c =
    let ids = c.args.channels.now in
    let n = c.loop-channel.channel-index in
    let id = get_or ids n (pos 0) in
    let rows = c.loop-channel.tracks.items in
    let same : to_z w64 (of_z w64 id) ≡ id = grind (arith, common_steps, to_z-of_z) in
    let here = drop-here ids n id c.loop-channel-test.true (get_or-any ids n (pos 0) id c.loop-channel-test.true) in
    record {
      answer = steps-next-at (open_channel c.args.way) rows c.open_channel.new.tracks.items (drop n ids) (drop (n + 1) ids) id here ((λ j. open_channel c.args.way rows (sym same j)) ∙ c.in_default.ensures.answer) ∙ c.loop-channel.invariant.answer;
      kept = c.open_channel.ensures.kept ∙ c.loop-channel.invariant.kept;
    }

pub returns-clause-answer : goal.returns-clause-answer
returns-clause-answer c = sym c.loop-channel.invariant.answer ∙ steps-end (open_channel c.args.way) c.loop-channel.tracks.items c.args.channels.now c.loop-channel.channel-index c.loop-channel-test.false
