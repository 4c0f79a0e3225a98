use Rattle.std.proofs.Common.{◌≡◌, sym, ◌∙◌, w64, to_z, of_z}
use Rattle.std.proofs.lemmas.Int.{to_z-of_z}
use Rattle.channel_store.specs.Refusals.{truncate_refusal}
use Rattle.channel_store.specs.Store.{truncated}
use Rattle.channel_store.specs.Sweeps.{shown_of, staged_by, all_done}
use Rattle.std.proofs.Common.{[]}
use Rattle.std.specs.Prelude.{zip}
use Rattle.channel_store.proofs.EndedLemmas.{outcome-err, outcome-ok, all-due, done-all, cleared-is, truncated-none, cut-outcome}
use Rattle.channel_store.proofs.calls.truncate_all.Goals as goal

pub returns-in-Err : goal.returns-in-Err
returns-in-Err c =
    let rows = c.args.tracks.now.items in
    let cs = shown_of rows in (
      (λ m. outcome-err (truncate_refusal cs [] (zip c.args.channels.now c.args.ends.now)) (staged_by (truncated (zip c.args.channels.now c.args.ends.now)) cs) c.in-Err.error (sym (cut-outcome cs rows (zip c.args.channels.now c.args.ends.now) c.requires.idle) ∙ c.in-Err.ensures.answer m)),
      cleared-is rows c.ready_truncate.new.tracks.items c.clear_all.new.tracks.items c.requires.idle c.ready_truncate.ensures.kept c.clear_all.ensures,
    )

pub commit_channels-requires-clause-due : goal.commit_channels-requires-clause-due
commit_channels-requires-clause-due c =
    let rows = c.args.tracks.now.items in
    let cs = shown_of rows in
    let ended = outcome-ok (truncate_refusal cs [] (zip c.args.channels.now c.args.ends.now)) (staged_by (truncated (zip c.args.channels.now c.args.ends.now)) cs) c.ready_truncate.new.tracks.items (sym (cut-outcome cs rows (zip c.args.channels.now c.args.ends.now) c.requires.idle) ∙ c.in-Ok.ensures.answer) in
    all-due c.args.place (truncated (zip c.args.channels.now c.args.ends.now)) cs c.ready_truncate.new.tracks.items ended.1 c.requires.new

pub commit_channels-requires-clause-ready : goal.commit_channels-requires-clause-ready
commit_channels-requires-clause-ready c = c.in-Ok.ensures.ready

pub returns-in-Ok : goal.returns-in-Ok
returns-in-Ok c =
    let rows = c.args.tracks.now.items in
    let cs = shown_of rows in
    let moment : to_z w64 (of_z w64 c.args.at) ≡ c.args.at = to_z-of_z w64 c.args.at c.ranges.at in
    let ended = outcome-ok (truncate_refusal cs [] (zip c.args.channels.now c.args.ends.now)) (staged_by (truncated (zip c.args.channels.now c.args.ends.now)) cs) c.ready_truncate.new.tracks.items (sym (cut-outcome cs rows (zip c.args.channels.now c.args.ends.now) c.requires.idle) ∙ c.in-Ok.ensures.answer) in (
      ended.0,
      c.commit_channels.ensures ∙ (λ j. all_done c.args.place (moment j) (c.in-Ok.ensures.channels j) c.ready_truncate.new.tracks.items) ∙ done-all c.args.place c.args.at (c.args.channels.now) (truncated (zip c.args.channels.now c.args.ends.now)) cs c.ready_truncate.new.tracks.items ended.1 (truncated-none c.args.channels.now c.args.ends.now c.requires.ends),
    )
