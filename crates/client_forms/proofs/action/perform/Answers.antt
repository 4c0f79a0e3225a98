use Rattle.std.proofs.Common.{ℕ, List, sym, subst}
use Rattle.etp_outside.specs.declared.status.Status.TheVariants.{Done}
use Rattle.client_forms.specs.Ctl.{closes, writes}
use Rattle.client_forms.specs.Plans.{acts}
use Rattle.client_forms.specs.Work.{Goes, Stops, Works, place}
use Rattle.client_forms.proofs.RefitLemmas.{goes_nothing}
use Rattle.client_forms.proofs.action.perform.Goals as goal

pub returns-in-Wait-clause-works : goal.returns-in-Wait-clause-works
returns-in-Wait-clause-works g c = λ stage.
    let p = place c.args.client.now stage in
    let x = c.args.io.now in
    subst (λ a. Goes (acts a) p p x x) (sym c.in-Wait.is) (goes_nothing p x)

pub returns-in-Ask-clause-works : goal.returns-in-Ask-clause-works
returns-in-Ask-clause-works g c = λ stage.
    subst (λ a. Works c.ask.result (acts a) (place c.args.client.now stage) (place c.ask.new.client stage) c.args.io.now c.ask.new.io) (sym c.in-Ask.is) (c.ask.ensures.works stage)

pub returns-in-Write-clause-works : goal.returns-in-Write-clause-works
returns-in-Write-clause-works g c = λ stage.
    let p = place c.args.client.now stage in
    let x = c.args.io.now in
    let y = c.write.new.io in
    subst (λ a. Works c.write.result (acts a) p p x y) (sym c.in-Write.is)
    (subst (λ (b : List ℕ). Works c.write.result (writes b) p p x y) c.as_bytes.ensures (c.write.ensures.works p))

pub returns-in-Report-clause-works : goal.returns-in-Report-clause-works
returns-in-Report-clause-works g c = λ stage.
    let p = place c.args.client.now stage in
    let x = c.args.io.now in
    let y = c.report.new.io in
    subst (λ a. Stops c.report.result (acts a) p x y) (sym c.in-Report.is)
    (subst (λ (b : List ℕ). Stops c.report.result (λ d. closes Done (writes b d)) p x y) c.as_bytes-in-Report.ensures (c.report.ensures.stops stage))
