use Rattle.std.proofs.Common.{◌≡◌, ◌∙◌, [], ◌∷◌, ap, sym}
use Rattle.std.proofs.lemmas.Result.{IfOk-weaker}
use Rattle.etp_frame.specs.Grouping.{total, groups}
use Rattle.etp_frame.specs.Grouped.{capped}
use Rattle.etp_frame.proofs.GroupLemmas.{all_together}
use Rattle.etp_frame.proofs.grouping.groups.Goals as goal

pub returns-then-has_room : goal.returns-then-has_room
returns-then-has_room g c =
    let size = g.M.Measuring.amount in
    let all = c.total-all.ensures ∙ ap (λ l. capped (total size l)) c.as_slice.ensures.value in
    let whole : groups size c.args.limit c.args.items.items ≡ c.args.items.items ∷ [] = all_together size c.args.limit c.args.items.items c.total-all.result c.ranges.limit.fits all (sym c.has_room.ensures ∙ c.if-has_room.true) in
    IfOk-weaker c.one_group.result _ _ (λ v is. is ∙ sym whole) c.one_group.ensures
