use Rattle.std.proofs.Common.{◌≡◌, sym, subst, ◌∙◌, Ok, w64, to_z, of_z}
use Rattle.std.proofs.lemmas.Int.{to_z-of_z}
use Rattle.channel_store.specs.Refusals.{replace_refusal}
use Rattle.channel_store.specs.Rows.{Becomes}
use Rattle.channel_store.specs.Store.{replaced}
use Rattle.channel_store.specs.Sweeps.{shown_of, staged_by, outcome}
use Rattle.channel_store.specs.Told.{ending}
use Rattle.channel_store.proofs.EndedLemmas.{outcome-ok}
use Rattle.channel_store.proofs.GivenLemmas.{tells-replaced}
use Rattle.channel_store.proofs.calls.share_replace.Goals as goal

pub returns-in-Err-clause-answer : goal.returns-in-Err-clause-answer
returns-in-Err-clause-answer c =
    let items = c.args.items.now in
    let ids = c.args.channels.now in
    let cs = shown_of c.args.tracks.now.items in
    let from : to_z w64 (of_z w64 c.args.from) ≡ c.args.from = to_z-of_z w64 c.args.from c.ranges.from in
    let to : to_z w64 (of_z w64 c.args.to) ≡ c.args.to = to_z-of_z w64 c.args.to c.ranges.to in
    λ m. (λ j. outcome (replace_refusal cs ids (sym from j) (sym to j) items) (staged_by (replaced ids (sym from j) (sym to j) items) cs)) ∙ c.in-Err.ensures.answer m

pub hand_out-requires : goal.hand_out-requires
hand_out-requires c =
    let items = c.args.items.now in
    let ids = c.args.channels.now in
    let cs = shown_of c.args.tracks.now.items in
    let mid = c.stage_replace.new.tracks.items in
    let from = to_z w64 (of_z w64 c.args.from) in
    let to = to_z w64 (of_z w64 c.args.to) in
    tells-replaced cs ids from to items mid (outcome-ok (replace_refusal cs ids from to items) (staged_by (replaced ids from to items) cs) mid c.in_default.ensures.answer).1

pub returns-clause-answer : goal.returns-clause-answer
returns-clause-answer c =
    let items = c.args.items.now in
    let ids = c.args.channels.now in
    let cs = shown_of c.args.tracks.now.items in
    let mid = c.stage_replace.new.tracks.items in
    let from : to_z w64 (of_z w64 c.args.from) ≡ c.args.from = to_z-of_z w64 c.args.from c.ranges.from in
    let to : to_z w64 (of_z w64 c.args.to) ≡ c.args.to = to_z-of_z w64 c.args.to c.ranges.to in
    let ready : outcome (replace_refusal cs ids c.args.from c.args.to items) (staged_by (replaced ids c.args.from c.args.to items) cs) ≡ Ok mid =
    (λ j. outcome (replace_refusal cs ids (sym from j) (sym to j) items) (staged_by (replaced ids (sym from j) (sym to j) items) cs)) ∙ c.in_default.ensures.answer in
    subst (Becomes (ending c.hand_out.result) c.hand_out.new.tracks.items) (sym ready) c.hand_out.ensures.answer

pub returns-clause-kept : goal.returns-clause-kept
returns-clause-kept c = c.hand_out.ensures.kept ∙ c.stage_replace.ensures.kept
