use Rattle.std.proofs.Common.{◌≡◌, ap, subst, ◌∙◌}
use Rattle.channel_store.specs.Rows.{Becomes}
use Rattle.channel_store.specs.Store.{appended}
use Rattle.channel_store.specs.Sweeps.{shown_of, outcome, staged_by, item_refusal_in}
use Rattle.channel_store.specs.Refusals.{first_refusal, verdict}
use Rattle.channel_store.proofs.EndedLemmas.{append-refused, append-outcome, verdict-err, verdict-ok}
use Rattle.channel_store.proofs.calls.stage_append.Goals as goal

pub returns-in-Err-clause-answer : goal.returns-in-Err-clause-answer
returns-in-Err-clause-answer c =
    let rows = c.args.tracks.now.items in
    let cs = shown_of rows in
    let same : c.as_slice.result.now ≡ rows = c.as_slice.ensures.value in
    let why = verdict-err (first_refusal (item_refusal_in rows) c.args.items.now) c.in-Err.error (c.in-Err.ensures ∙ ap (λ r. verdict (first_refusal (item_refusal_in r) c.args.items.now)) same) in
    λ m. ap (λ o. outcome o (staged_by (appended c.args.items.now) cs)) (append-refused cs rows c.args.items.now c.in-Err.error c.requires why)

pub returns-in-Ok-clause-answer : goal.returns-in-Ok-clause-answer
returns-in-Ok-clause-answer c =
    let rows = c.args.tracks.now.items in
    let cs = shown_of rows in
    let same : c.as_slice.result.now ≡ rows = c.as_slice.ensures.value in
    let none = verdict-ok (first_refusal (item_refusal_in rows) c.args.items.now) tt (c.in-Ok.ensures ∙ ap (λ r. verdict (first_refusal (item_refusal_in r) c.args.items.now)) same) in
    subst (Becomes c.append_items.result c.append_items.new.tracks.items) (append-outcome cs rows c.args.items.now c.requires none) c.append_items.ensures.answer
