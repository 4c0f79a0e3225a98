use Rattle.std.proofs.Common.{◌≡◌, sym, subst, ◌∙◌, Ok, w64, to_z, of_z}
use Rattle.std.proofs.lemmas.Int.{to_z-of_z}
use Rattle.channel_store.specs.Refusals.{replace_refusal}
use Rattle.channel_store.specs.Rows.{Becomes}
use Rattle.channel_store.specs.Store.{replaced}
use Rattle.channel_store.specs.Sweeps.{shown_of, staged_by, outcome}
use Rattle.channel_store.specs.Told.{ending}
use Rattle.channel_store.proofs.calls.prepare_replace.Goals as goal

pub returns-in-Err-clause-answer : goal.returns-in-Err-clause-answer
returns-in-Err-clause-answer c =
    let items = c.args.items.now in
    let ids = c.args.channels.now in
    let cs = shown_of c.args.tracks.now.items in
    let from : to_z w64 (of_z w64 c.args.from) ≡ c.args.from = to_z-of_z w64 c.args.from c.ranges.from in
    let to : to_z w64 (of_z w64 c.args.to) ≡ c.args.to = to_z-of_z w64 c.args.to c.ranges.to in
    λ m. (λ j. outcome (replace_refusal cs ids (sym from j) (sym to j) items) (staged_by (replaced ids (sym from j) (sym to j) items) cs)) ∙ c.in-Err.ensures.answer m

pub returns-in-Ok-clause-answer : goal.returns-in-Ok-clause-answer
returns-in-Ok-clause-answer c =
    let items = c.args.items.now in
    let ids = c.args.channels.now in
    let cs = shown_of c.args.tracks.now.items in
    let mid = c.share_replace.new.tracks.items in
    let r = ending c.with_readies.result in
    let from : to_z w64 (of_z w64 c.args.from) ≡ c.args.from = to_z-of_z w64 c.args.from c.ranges.from in
    let to : to_z w64 (of_z w64 c.args.to) ≡ c.args.to = to_z-of_z w64 c.args.to c.ranges.to in
    let staged : outcome (replace_refusal cs ids c.args.from c.args.to items) (staged_by (replaced ids c.args.from c.args.to items) cs) ≡ Ok mid =
    (λ j. outcome (replace_refusal cs ids (sym from j) (sym to j) items) (staged_by (replaced ids (sym from j) (sym to j) items) cs)) ∙ c.in-Ok.ensures.answer in
    subst (Becomes r mid) (sym staged) (subst (λ l. Becomes r l (Ok l)) c.as_slice.ensures.value c.with_readies.ensures.answer)
