use Rattle.std.proofs.Common.{◌≡◌, sym, ap, subst, ◌∙◌, w64, to_z, of_z}
use Rattle.std.proofs.lemmas.Int.{to_z-of_z}
use Rattle.channel_store.specs.declared.draft.Way.TheVariants.{Between}
use Rattle.channel_store.specs.Refusals.{channels_refusal, interval_refusal, inside_refusal, is_listed, channel_at, disorder, or_else, first_refusal}
use Rattle.channel_store.specs.Rows.{Becomes}
use Rattle.channel_store.specs.Store.{replaced}
use Rattle.channel_store.specs.Sweeps.{shown_of, outcome, staged_by, steps, open_channel, add_item, inside_refusal_in, unless_refused}
use Rattle.std.proofs.Common.{[]}
use Rattle.channel_store.proofs.EndedLemmas.{outcome-err, outcome-ok, open-outcome, fill-outcome}
use Rattle.channel_store.proofs.calls.stage_replace.Goals as goal

pub returns-in-Err-clause-answer : goal.returns-in-Err-clause-answer
returns-in-Err-clause-answer c =
    let rows = c.args.tracks.now.items in
    let cs = shown_of rows in
    let ids = c.args.channels.now in
    let from : to_z w64 (of_z w64 c.args.from) ≡ c.args.from = to_z-of_z w64 c.args.from c.ranges.from in
    let to : to_z w64 (of_z w64 c.args.to) ≡ c.args.to = to_z-of_z w64 c.args.to c.ranges.to in
    λ m.
    let refused = outcome-err (channels_refusal cs [] ids) (staged_by (replaced ids c.args.from c.args.to []) cs) c.in-Err.error (sym (open-outcome cs rows ids c.args.from c.args.to c.requires) ∙ (λ j. steps (open_channel (Between (sym from j) (sym to j))) rows ids) ∙ c.in-Err.ensures.answer m) in
    ap (λ o. outcome (or_else o (or_else (interval_refusal c.args.from c.args.to) (or_else (first_refusal (λ i. inside_refusal (is_listed ids i.channel) (channel_at cs i.channel) c.args.from c.args.to i) c.args.items.now) (disorder (λ id. []) [] c.args.items.now)))) (staged_by (replaced ids c.args.from c.args.to c.args.items.now) cs)) refused

pub returns-in-Ok-clause-answer : goal.returns-in-Ok-clause-answer
returns-in-Ok-clause-answer c =
    let rows = c.args.tracks.now.items in
    let cs = shown_of rows in
    let ids = c.args.channels.now in
    let mid = c.open_channels.new.tracks.items in
    let from : to_z w64 (of_z w64 c.args.from) ≡ c.args.from = to_z-of_z w64 c.args.from c.ranges.from in
    let to : to_z w64 (of_z w64 c.args.to) ≡ c.args.to = to_z-of_z w64 c.args.to c.ranges.to in
    let opened = outcome-ok (channels_refusal cs [] ids) (staged_by (replaced ids c.args.from c.args.to []) cs) mid (sym (open-outcome cs rows ids c.args.from c.args.to c.requires) ∙ (λ j. steps (open_channel (Between (sym from j) (sym to j))) rows ids) ∙ c.in-Ok.ensures.answer) in
    subst (Becomes c.fill.result c.fill.new.tracks.items)
    ((λ j. unless_refused (interval_refusal (from j) (to j)) (unless_refused (first_refusal (inside_refusal_in mid (from j) (to j)) c.args.items.now) (steps add_item mid c.args.items.now)))
    ∙ fill-outcome cs ids c.args.from c.args.to mid c.args.items.now opened.1 opened.0)
    c.fill.ensures.answer
