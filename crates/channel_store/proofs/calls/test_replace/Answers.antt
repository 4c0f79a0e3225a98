use Rattle.std.proofs.Common.{◌≡◌, subst, w64, to_z, of_z}
use Rattle.std.proofs.lemmas.Int.{to_z-of_z}
use Rattle.channel_store.specs.Refusals.{Refuses, replace_refusal}
use Rattle.channel_store.specs.Store.{replaced}
use Rattle.channel_store.specs.Sweeps.{shown_of, staged_by}
use Rattle.channel_store.proofs.EndedLemmas.{cleared-is}
use Rattle.channel_store.proofs.GivenLemmas.{becomes-refuses}
use Rattle.channel_store.proofs.calls.test_replace.Goals as goal

pub returns-clause-answer : goal.returns-clause-answer
returns-clause-answer c =
    let items = c.args.items.now in
    let ids = c.args.channels.now in
    let cs = shown_of c.args.tracks.now.items in
    let from : to_z w64 (of_z w64 c.args.from) ≡ c.args.from = to_z-of_z w64 c.args.from c.ranges.from in
    let to : to_z w64 (of_z w64 c.args.to) ≡ c.args.to = to_z-of_z w64 c.args.to c.ranges.to in
    let first = c.stage_replace-result in
    subst (Refuses first.result) (λ j. replace_refusal cs ids (from j) (to j) items)
    (becomes-refuses first.result first.new.tracks.items (staged_by (replaced ids (to_z w64 (of_z w64 c.args.from)) (to_z w64 (of_z w64 c.args.to)) items) cs) (replace_refusal cs ids (to_z w64 (of_z w64 c.args.from)) (to_z w64 (of_z w64 c.args.to)) items) first.ensures.answer)

pub returns-clause-same : goal.returns-clause-same
returns-clause-same c =
    let first = c.stage_replace-result in
    cleared-is c.args.tracks.now.items first.new.tracks.items c.clear_all.new.tracks.items c.requires first.ensures.kept c.clear_all.ensures
