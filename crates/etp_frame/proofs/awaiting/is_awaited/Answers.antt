use Rattle.std.proofs.Common.{◌∙◌, sym}
use Rattle.etp_frame.proofs.PlaceLemmas.{any_at_place}
use Rattle.etp_frame.proofs.awaiting.is_awaited.Goals as goal

pub returns-in-Some : goal.returns-in-Some
returns-in-Some c =
    let e = c.in-Some.ensures in
    sym (any_at_place c.in-Some.field-0 c.args.id c.args.objects.now e.1 ∙ e.2)
