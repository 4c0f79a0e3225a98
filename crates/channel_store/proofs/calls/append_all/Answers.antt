use Rattle.std.proofs.Common.{◌≡◌, ◌∙◌, w64, to_z, of_z}
use Rattle.std.proofs.lemmas.Int.{to_z-of_z}
use Rattle.channel_store.specs.Refusals.{append_refusal}
use Rattle.channel_store.specs.Store.{appended}
use Rattle.channel_store.specs.Sweeps.{shown_of, staged_by, all_done, ids_of}
use Rattle.channel_store.proofs.EndedLemmas.{outcome-err, outcome-ok, all-appending, all-due, done-all, cleared-is, appended-none}
use Rattle.channel_store.proofs.calls.append_all.Goals as goal

pub returns-in-Err-clause-ends : goal.returns-in-Err-clause-ends
returns-in-Err-clause-ends c =
    let rows = c.args.tracks.now.items in
    let cs = shown_of rows in (
      (λ m. outcome-err (append_refusal cs c.args.items.now) (staged_by (appended c.args.items.now) cs) c.in-Err.error (c.in-Err.ensures.answer m)),
      cleared-is rows c.share_append.new.tracks.items c.clear_all.new.tracks.items c.requires.idle c.share_append.ensures.kept c.clear_all.ensures,
    )

pub commit_items-requires-clause-due : goal.commit_items-requires-clause-due
commit_items-requires-clause-due c =
    let rows = c.args.tracks.now.items in
    let cs = shown_of rows in
    let ended = outcome-ok (append_refusal cs c.args.items.now) (staged_by (appended c.args.items.now) cs) c.share_append.new.tracks.items (c.in-Ok.ensures.answer) in
    all-due c.args.place (appended c.args.items.now) cs c.share_append.new.tracks.items ended.1 c.requires.new

pub commit_items-requires-clause-appending : goal.commit_items-requires-clause-appending
commit_items-requires-clause-appending c =
    let rows = c.args.tracks.now.items in
    let cs = shown_of rows in
    let ended = outcome-ok (append_refusal cs c.args.items.now) (staged_by (appended c.args.items.now) cs) c.share_append.new.tracks.items (c.in-Ok.ensures.answer) in
    all-appending c.args.items.now cs c.share_append.new.tracks.items ended.1

pub returns-in-Ok-clause-ends : goal.returns-in-Ok-clause-ends
returns-in-Ok-clause-ends c =
    let rows = c.args.tracks.now.items in
    let cs = shown_of rows in
    let moment : to_z w64 (of_z w64 c.args.at) ≡ c.args.at = to_z-of_z w64 c.args.at c.ranges.at in
    let ended = outcome-ok (append_refusal cs c.args.items.now) (staged_by (appended c.args.items.now) cs) c.share_append.new.tracks.items (c.in-Ok.ensures.answer) in (
      ended.0,
      c.commit_items.ensures ∙ (λ j. all_done c.args.place (moment j) (ids_of c.args.items.now) c.share_append.new.tracks.items) ∙ done-all c.args.place c.args.at (ids_of c.args.items.now) (appended c.args.items.now) cs c.share_append.new.tracks.items ended.1 (appended-none c.args.items.now),
    )

pub returns-in-Ok-clause-items : goal.returns-in-Ok-clause-items
returns-in-Ok-clause-items c = c.in-Ok.ensures.items
