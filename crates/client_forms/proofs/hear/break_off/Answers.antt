use Rattle.std.proofs.Common.{sym, ◌∙◌}
use Rattle.client_forms.specs.Ctl.{breaks, closes}
use Rattle.client_forms.specs.Work.{place}
use Rattle.client_forms.proofs.BreakingLemmas.{breaks_open, breaks_opening}
use Rattle.client_forms.proofs.WorkLemmas.{late_may}
use Rattle.client_forms.proofs.RefitLemmas.{stops_refit}
use Rattle.client_forms.proofs.hear.break_off.Goals as goal

pub returns-then-opening-clause-stops : goal.returns-then-opening-clause-stops
returns-then-opening-clause-stops g c = λ stage e late. breaks_opening c.args.status c.args.client.now stage c.args.io.now (sym e ∙ c.if-opening.true)

pub returns-clause-stops : goal.returns-clause-stops
returns-clause-stops g c = λ stage e late.
    let p = place c.args.client.now stage in
    stops_refit c.close.result (breaks c.args.status) (closes c.args.status) p p c.args.io.now c.close.new.io
    (breaks_open c.args.status c.args.client.now stage (sym e ∙ c.if-opening.false)) (c.close.ensures.stops stage (late_may c.args.status late))
