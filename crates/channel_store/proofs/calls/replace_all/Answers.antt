use Rattle.std.proofs.Common.{◌≡◌, sym, ◌∙◌, w64, to_z, of_z}
use Rattle.std.proofs.lemmas.Int.{to_z-of_z}
use Rattle.channel_store.specs.Refusals.{replace_refusal}
use Rattle.channel_store.specs.Store.{replaced}
use Rattle.channel_store.specs.Sweeps.{shown_of, outcome, staged_by, all_done}
use Rattle.channel_store.proofs.EndedLemmas.{outcome-err, outcome-ok, all-due, done-all, cleared-is, replaced-none}
use Rattle.channel_store.proofs.calls.replace_all.Goals as goal

pub returns-in-Err-clause-ends : goal.returns-in-Err-clause-ends
returns-in-Err-clause-ends c =
    let rows = c.args.tracks.now.items in
    let cs = shown_of rows in
    let from : to_z w64 (of_z w64 c.args.from) ≡ c.args.from = to_z-of_z w64 c.args.from c.ranges.from in
    let to : to_z w64 (of_z w64 c.args.to) ≡ c.args.to = to_z-of_z w64 c.args.to c.ranges.to in (
      (λ m. outcome-err (replace_refusal cs c.args.channels.now c.args.from c.args.to c.args.items.now) (staged_by (replaced c.args.channels.now c.args.from c.args.to c.args.items.now) cs) c.in-Err.error ((λ j. outcome (replace_refusal cs c.args.channels.now (sym from j) (sym to j) c.args.items.now) (staged_by (replaced c.args.channels.now (sym from j) (sym to j) c.args.items.now) cs)) ∙ c.in-Err.ensures.answer m)),
      cleared-is rows c.prepare_replace.new.tracks.items c.clear_all.new.tracks.items c.requires.idle c.prepare_replace.ensures.kept c.clear_all.ensures,
    )

pub finish-requires-clause-due : goal.finish-requires-clause-due
finish-requires-clause-due c =
    let rows = c.args.tracks.now.items in
    let cs = shown_of rows in
    let from : to_z w64 (of_z w64 c.args.from) ≡ c.args.from = to_z-of_z w64 c.args.from c.ranges.from in
    let to : to_z w64 (of_z w64 c.args.to) ≡ c.args.to = to_z-of_z w64 c.args.to c.ranges.to in
    let ended = outcome-ok (replace_refusal cs c.args.channels.now c.args.from c.args.to c.args.items.now) (staged_by (replaced c.args.channels.now c.args.from c.args.to c.args.items.now) cs) c.prepare_replace.new.tracks.items ((λ j. outcome (replace_refusal cs c.args.channels.now (sym from j) (sym to j) c.args.items.now) (staged_by (replaced c.args.channels.now (sym from j) (sym to j) c.args.items.now) cs)) ∙ c.in-Ok.ensures.answer) in
    all-due c.args.place (replaced c.args.channels.now c.args.from c.args.to c.args.items.now) cs c.prepare_replace.new.tracks.items ended.1 c.requires.new

pub finish-requires-clause-ready : goal.finish-requires-clause-ready
finish-requires-clause-ready c = c.in-Ok.ensures.ready

pub returns-in-Ok-clause-ends : goal.returns-in-Ok-clause-ends
returns-in-Ok-clause-ends c =
    let rows = c.args.tracks.now.items in
    let cs = shown_of rows in
    let from : to_z w64 (of_z w64 c.args.from) ≡ c.args.from = to_z-of_z w64 c.args.from c.ranges.from in
    let to : to_z w64 (of_z w64 c.args.to) ≡ c.args.to = to_z-of_z w64 c.args.to c.ranges.to in
    let moment : to_z w64 (of_z w64 c.args.at) ≡ c.args.at = to_z-of_z w64 c.args.at c.ranges.at in
    let ended = outcome-ok (replace_refusal cs c.args.channels.now c.args.from c.args.to c.args.items.now) (staged_by (replaced c.args.channels.now c.args.from c.args.to c.args.items.now) cs) c.prepare_replace.new.tracks.items ((λ j. outcome (replace_refusal cs c.args.channels.now (sym from j) (sym to j) c.args.items.now) (staged_by (replaced c.args.channels.now (sym from j) (sym to j) c.args.items.now) cs)) ∙ c.in-Ok.ensures.answer) in (
      ended.0,
      c.finish.ensures.done ∙ (λ j. all_done c.args.place (moment j) (c.in-Ok.ensures.channels j) c.prepare_replace.new.tracks.items) ∙ done-all c.args.place c.args.at (c.args.channels.now) (replaced c.args.channels.now c.args.from c.args.to c.args.items.now) cs c.prepare_replace.new.tracks.items ended.1 (replaced-none c.args.channels.now c.args.from c.args.to c.args.items.now),
    )

pub returns-in-Ok-clause-items : goal.returns-in-Ok-clause-items
returns-in-Ok-clause-items c = c.finish.ensures.given ∙ c.in-Ok.ensures.items
