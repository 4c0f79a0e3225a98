use Rattle.std.proofs.Common.{true, refl, ap, ◌∙◌}
use Rattle.client_core.specs.declared.ask.Ask.TheVariants as asked
use Rattle.client_forms.specs.Ctl.{Asked, Deleting, goes_by}
use Rattle.client_forms.specs.Jobs.{HasRead, IsDelete, stage_of}
use Rattle.client_forms.specs.Plans.{Waits, standing}
use Rattle.client_forms.specs.Texts.{deleted_line}
use Rattle.client_forms.specs.Work.{input, outside, place}
use Rattle.client_forms.specs.declared.action.Action.TheVariants as action
use Rattle.client_forms.proofs.PlanningLemmas.{goes_fronts, plan_given, reads_as}
use Rattle.client_forms.proofs.deleting.DeleteJob.next.Goals as goal

pub returns-in-Done-clause-plans : goal.returns-in-Done-clause-plans
returns-in-Done-clause-plans g c = λ shown job stage l told o there.
    let left = g.R.Source.left c.args._from.now in
    let x = outside l told o (input left (g.R.Source.faults c.args._from.now)) in
    let u = c.args.self.now.uri in
    let asked = c.args.self.now.asked in
    plan_given c.show_deleted.result (action.Report (deleted_line u)) (λ v rest. IsDelete u asked job v × Waits rest) (λ v. IsDelete u asked job v) (HasRead job left)
    (λ d. goes_by shown job d.at.stage c.args.got.now d) stage stage x c.show_deleted.ensures (there, refl) there (reads_as job (Deleting u) left there.job_is tt)
    (λ s d. λ i. goes_by shown (there.job_is i) ((there.stage_is ∙ ap stage_of c.if-self.true) i) (c.in-Done.is i) (standing (place s stage) d))
    (goes_fronts shown job c.args.got.now)

pub returns-in-Opened-clause-plans : goal.returns-in-Opened-clause-plans
returns-in-Opened-clause-plans g c = λ shown job stage l told o there.
    let left = g.R.Source.left c.args._from.now in
    let x = outside l told o (input left (g.R.Source.faults c.args._from.now)) in
    let u = c.args.self.now.uri in
    let is = there.stage_is ∙ ap stage_of c.if-self.false in
    let now : IsDelete u true job Asked = record { job_is = there.job_is; stage_is = refl } in
    plan_given c.delete_object.result (action.Ask (asked.Delete u)) (λ v rest. IsDelete u true job v × Waits rest) (λ v. IsDelete u true job v) (HasRead job left)
    (λ d. goes_by shown job d.at.stage c.args.got.now d) stage Asked x c.delete_object.ensures (now, refl) now (reads_as job (Deleting u) left there.job_is tt)
    (λ s d. λ i. goes_by shown (there.job_is i) (is i) (c.in-Opened.is i) (standing (place s (is i)) d))
    (goes_fronts shown job c.args.got.now)
