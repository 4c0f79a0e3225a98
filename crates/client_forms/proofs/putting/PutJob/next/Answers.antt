use Rattle.std.proofs.Common.{true, refl, ap, ◌∙◌}
use Rattle.client_core.specs.declared.ask.Ask.TheVariants as asked
use Rattle.client_forms.specs.Ctl.{Asked, goes_by}
use Rattle.client_forms.specs.Texts.{put_line}
use Rattle.client_forms.specs.Jobs.{HasRead, IsPut, stage_of}
use Rattle.client_forms.specs.Plans.{Waits, standing}
use Rattle.client_forms.specs.Work.{input, outside, place}
use Rattle.client_forms.specs.declared.action.Action.TheVariants as action
use Rattle.client_forms.proofs.PlanningLemmas.{put_reads, goes_fronts, plan_given}
use Rattle.client_forms.proofs.putting.PutJob.next.Goals as goal

pub returns-in-Done-clause-plans : goal.returns-in-Done-clause-plans
returns-in-Done-clause-plans g c = λ shown job stage l told o there.
    let x = outside l told o (input (g.R.Source.left c.args._from.now) (g.R.Source.faults c.args._from.now)) in
    plan_given c.show_put.result (action.Report (put_line c.args.self.now.uri)) (λ v rest. IsPut c.args.self.now.uri c.args.self.now.payload c.args.self.now.asked job v × Waits rest) (λ v. IsPut c.args.self.now.uri c.args.self.now.payload c.args.self.now.asked job v) (HasRead job (g.R.Source.left c.args._from.now))
    (λ d. goes_by shown job d.at.stage c.args.got.now d) stage stage x c.show_put.ensures (there, refl) there (put_reads job (g.R.Source.left c.args._from.now) c.args.self.now.uri c.args.self.now.payload there.job_is)
    (λ s d. λ i. goes_by shown (there.job_is i) ((there.stage_is ∙ ap stage_of c.if-self.true) i) (c.in-Done.is i) (standing (place s stage) d))
    (goes_fronts shown job c.args.got.now)

pub returns-in-Opened-clause-plans : goal.returns-in-Opened-clause-plans
returns-in-Opened-clause-plans g c = λ shown job stage l told o there.
    let x = outside l told o (input (g.R.Source.left c.args._from.now) (g.R.Source.faults c.args._from.now)) in
    let is = there.stage_is ∙ ap stage_of c.if-self.false in
    let now : IsPut c.args.self.now.uri c.args.self.now.payload true job Asked = record { job_is = there.job_is; stage_is = refl } in
    plan_given c.put_object.result (action.Ask (asked.Put c.args.self.now.uri c.args.self.now.payload)) (λ v rest. IsPut c.args.self.now.uri c.args.self.now.payload true job v × Waits rest) (λ v. IsPut c.args.self.now.uri c.args.self.now.payload true job v) (HasRead job (g.R.Source.left c.args._from.now))
    (λ d. goes_by shown job d.at.stage c.args.got.now d) stage Asked x c.put_object.ensures (now, refl) now (put_reads job (g.R.Source.left c.args._from.now) c.args.self.now.uri c.args.self.now.payload there.job_is)
    (λ s d. λ i. goes_by shown (there.job_is i) (is i) (c.in-Opened.is i) (standing (place s (is i)) d))
    (goes_fronts shown job c.args.got.now)
