use Rattle.std.proofs.Common.{◌≡◌, ◌∙◌, List, ℕ, false, Some, sym, ap, subst}
use Rattle.std.specs.List.{list_any}
use Rattle.etp_frame.specs.Joining.{Objects, awaits}
use Rattle.etp_frame.specs.Kept.{IsPlace, last_piece, filled_at}
use Rattle.etp_frame.proofs.PlaceLemmas.{fed_filled, fed_none}
use Rattle.etp_frame.proofs.awaiting.finished.Goals as goal

pub returns-in-Some : goal.returns-in-Some
returns-in-Some c =
    let xs = c.args.objects.items in
    let e = subst (IsPlace (Some c.in-Some.place) c.args.id) c.deref.ensures.value c.in-Some.ensures in
    c.filled.ensures
    ∙ ap (λ (b : List ℕ). filled_at c.in-Some.place b xs) c.in_ok-payload.ensures
    ∙ sym (fed_filled c.in-Some.place c.args.id c.args.pieces.items xs e.1 e.2 c.requires.single)

pub returns-in-None : goal.returns-in-None
returns-in-None c = sym (fed_none (last_piece c.args.id c.args.pieces.items) c.args.objects.items (subst (λ (ys : Objects). list_any (awaits c.args.id) ys ≡ false) c.deref.ensures.value c.in-None.ensures))
