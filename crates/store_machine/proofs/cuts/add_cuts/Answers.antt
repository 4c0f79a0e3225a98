use Rattle.std.proofs.Common.{arith, ◌≡◌, ◌∙◌, ap, sym, length, map, w64, to_z, of_z}
use Rattle.std.proofs.lemmas.Grind.{common_steps}
use Rattle.std.proofs.lemmas.Int.{to_z-of_z}
use Rattle.std.specs.Prelude.{zip}
use Rattle.channel_store.specs.Store.{changed, truncated}
use Rattle.store_machine.specs.Channels.{cut_of}
use Rattle.store_machine.proofs.CutLemmas.{lengths-cuts, zip-cuts}
use Rattle.store_machine.proofs.cuts.add_cuts.Goals as goal

pub truncate-requires-clause-ends : goal.truncate-requires-clause-ends
truncate-requires-clause-ends c = ap length c.in_ok-ids.ensures ∙ lengths-cuts c.args.cuts ∙ ap length (sym c.in_ok-ends.ensures)

pub returns-clause-channels : goal.returns-clause-channels
returns-clause-channels c =
    let cuts : zip c.in_ok-ids.ids c.in_ok-ends.ends ≡ map cut_of c.args.cuts = (λ j. zip (c.in_ok-ids.ensures j) (c.in_ok-ends.ensures j)) ∙ zip-cuts c.args.cuts in
    let moment : to_z w64 (of_z w64 c.args.at) ≡ c.args.at = to_z-of_z w64 c.args.at c.ranges.at in
    let place : c.len.result ≡ length c.args.journal.now.items = grind (arith, common_steps) in
    c.in-Ok.ensures.store ∙ (λ j. changed (place j) (moment j) (truncated (cuts j)) c.args.channels.now)
