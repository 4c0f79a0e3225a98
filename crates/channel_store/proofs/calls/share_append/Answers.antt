use Rattle.std.proofs.Common.{sym, subst, ◌∙◌}
use Rattle.channel_store.specs.Refusals.{append_refusal}
use Rattle.channel_store.specs.Rows.{Becomes}
use Rattle.channel_store.specs.Store.{appended}
use Rattle.channel_store.specs.Sweeps.{shown_of, staged_by}
use Rattle.channel_store.specs.Told.{ending}
use Rattle.channel_store.proofs.EndedLemmas.{outcome-ok}
use Rattle.channel_store.proofs.GivenLemmas.{tells-appended}
use Rattle.channel_store.proofs.calls.share_append.Goals as goal

pub hand_out-requires : goal.hand_out-requires
hand_out-requires c =
    let items = c.args.items.now in
    let cs = shown_of c.args.tracks.now.items in
    let mid = c.stage_append.new.tracks.items in
    tells-appended cs items mid (outcome-ok (append_refusal cs items) (staged_by (appended items) cs) mid c.in_default.ensures.answer).1

pub returns-clause-answer : goal.returns-clause-answer
returns-clause-answer c = subst (Becomes (ending c.hand_out.result) c.hand_out.new.tracks.items) (sym c.in_default.ensures.answer) c.hand_out.ensures.answer

pub returns-clause-kept : goal.returns-clause-kept
returns-clause-kept c = c.hand_out.ensures.kept ∙ c.stage_append.ensures.kept
