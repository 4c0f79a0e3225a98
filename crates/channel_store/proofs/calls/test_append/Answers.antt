use Rattle.channel_store.specs.Refusals.{append_refusal}
use Rattle.channel_store.specs.Store.{appended}
use Rattle.channel_store.specs.Sweeps.{shown_of, staged_by}
use Rattle.channel_store.proofs.EndedLemmas.{cleared-is}
use Rattle.channel_store.proofs.GivenLemmas.{becomes-refuses}
use Rattle.channel_store.proofs.calls.test_append.Goals as goal

pub returns-clause-answer : goal.returns-clause-answer
returns-clause-answer c =
    let items = c.args.items.now in
    let cs = shown_of c.args.tracks.now.items in
    let first = c.stage_append-result in
    becomes-refuses first.result first.new.tracks.items (staged_by (appended items) cs) (append_refusal cs items) first.ensures.answer

pub returns-clause-same : goal.returns-clause-same
returns-clause-same c =
    let first = c.stage_append-result in
    cleared-is c.args.tracks.now.items first.new.tracks.items c.clear_all.new.tracks.items c.requires first.ensures.kept c.clear_all.ensures
