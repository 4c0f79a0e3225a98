use Rattle.std.proofs.Common.{true, refl, ap, ◌∙◌}
use Rattle.client_core.specs.declared.ask.Ask.TheVariants as asked
use Rattle.client_forms.specs.Ctl.{Asked, Pinging, goes_by}
use Rattle.client_forms.specs.Jobs.{HasRead, IsPing, stage_of}
use Rattle.client_forms.specs.Plans.{Waits, standing}
use Rattle.client_forms.specs.Texts.{pong_line}
use Rattle.client_forms.specs.Work.{input, outside, place}
use Rattle.client_forms.specs.declared.action.Action.TheVariants as action
use Rattle.client_forms.proofs.PlanningLemmas.{goes_fronts, plan_alone, plan_given, reads_as}
use Rattle.client_forms.proofs.pinging.PingJob.next.Goals as goal

pub returns-in-Pong-clause-plans : goal.returns-in-Pong-clause-plans
returns-in-Pong-clause-plans g c = λ shown job stage l told o there.
    let left = g.R.Source.left c.args._from.now in
    let x = outside l told o (input left (g.R.Source.faults c.args._from.now)) in
    let asked = c.args.self.now.asked in
    plan_given c.show_pong.result (action.Report (pong_line c.in-Pong.moment)) (λ v rest. IsPing asked job v × Waits rest) (λ v. IsPing asked job v) (HasRead job left)
    (λ d. goes_by shown job d.at.stage c.args.got.now d) stage stage x c.show_pong.ensures (there, refl) there (reads_as job Pinging left there.job_is tt)
    (λ s d. λ i. goes_by shown (there.job_is i) ((there.stage_is ∙ ap stage_of c.if-self.true) i) (c.in-Pong.is i) (standing (place s stage) d))
    (goes_fronts shown job c.args.got.now)

pub returns-in-Opened-clause-plans : goal.returns-in-Opened-clause-plans
returns-in-Opened-clause-plans g c = λ shown job stage l told o there.
    let left = g.R.Source.left c.args._from.now in
    let is = there.stage_is ∙ ap stage_of c.if-self.false in
    let now : IsPing true job Asked = record { job_is = there.job_is; stage_is = refl } in
    plan_alone (λ v rest. IsPing true job v × Waits rest) (λ v. IsPing true job v) (HasRead job left)
    (λ d. goes_by shown job d.at.stage c.args.got.now d) stage Asked (action.Ask asked.Ping) (now, refl) now (reads_as job Pinging left there.job_is tt)
    (λ s d. λ i. goes_by shown (there.job_is i) (is i) (c.in-Opened.is i) (standing (place s (is i)) d))
