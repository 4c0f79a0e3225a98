use Rattle.std.proofs.Common.{refl, sym, ap, ◌∙◌}
use Rattle.client_core.specs.declared.ask.Ask.TheVariants as asked
use Rattle.client_forms.specs.Ctl.{Asked, Followed, Following, goes_by}
use Rattle.client_forms.specs.Jobs.{HasRead, IsFollow, follow_stage}
use Rattle.client_forms.specs.Plans.{Waits, acts, standing}
use Rattle.client_forms.specs.Texts.{change_lines}
use Rattle.client_forms.specs.Work.{input, outside, place}
use Rattle.client_forms.specs.declared.action.Action.TheVariants as action
use Rattle.client_forms.specs.declared.following.FollowStage.TheVariants as follow
use Rattle.client_forms.proofs.PlanningLemmas.{goes_fronts, plan_alone, plan_given, reads_as}
use Rattle.client_forms.proofs.following.FollowJob.next.Goals as goal

pub returns-in-Opened-clause-plans : goal.returns-in-Opened-clause-plans
returns-in-Opened-clause-plans g c = λ shown job stage l told o there.
    let left = g.R.Source.left c.args._from.now in
    let x = outside l told o (input left (g.R.Source.faults c.args._from.now)) in
    let s = c.args.self.now in
    let is = there.stage_is ∙ ap follow_stage c.in-Opening.is in
    let now : IsFollow s.uri s.start follow.Asked job Asked = record { job_is = there.job_is; stage_is = refl } in
    plan_given c.ask_meta.result (action.Ask (asked.Meta s.uri)) (λ v rest. IsFollow s.uri s.start follow.Asked job v × Waits rest) (λ v. IsFollow s.uri s.start follow.Asked job v) (HasRead job left)
    (λ d. goes_by shown job d.at.stage c.args.got.now d) stage Asked x c.ask_meta.ensures (now, refl) now (reads_as job (Following s.uri s.start) left there.job_is tt)
    (λ t d. λ i. goes_by shown (there.job_is i) (is i) (c.in-Opened.is i) (standing (place t (is i)) d))
    (goes_fronts shown job c.args.got.now)

pub returns-in-Meta-clause-plans : goal.returns-in-Meta-clause-plans
returns-in-Meta-clause-plans g c = λ shown job stage l told o there.
    let left = g.R.Source.left c.args._from.now in
    let s = c.args.self.now in
    let is = there.stage_is ∙ ap follow_stage c.in-Asked.is in
    let now : IsFollow s.uri s.start follow.Followed job Followed = record { job_is = there.job_is; stage_is = refl } in
    plan_alone (λ v rest. IsFollow s.uri s.start follow.Followed job v × Waits rest) (λ v. IsFollow s.uri s.start follow.Followed job v) (HasRead job left)
    (λ d. goes_by shown job d.at.stage c.args.got.now d) stage Followed c.subscribe.result (now, refl) now (reads_as job (Following s.uri s.start) left there.job_is tt)
    (λ t d. (λ i. goes_by shown (there.job_is i) (is i) (c.in-Meta.is i) (standing (place t (is i)) d)) ∙ (λ i. acts (sym c.subscribe.ensures i) (standing (place t Followed) d)))

pub returns-in-Change-clause-plans : goal.returns-in-Change-clause-plans
returns-in-Change-clause-plans g c = λ shown job stage l told o there.
    let left = g.R.Source.left c.args._from.now in
    let x = outside l told o (input left (g.R.Source.faults c.args._from.now)) in
    let s = c.args.self.now in
    let is = there.stage_is ∙ ap follow_stage c.in-Followed.is in
    plan_given c.write_change.result (action.Write (change_lines c.in-Change.change.what)) (λ v rest. IsFollow s.uri s.start s.stage job v × Waits rest) (λ v. IsFollow s.uri s.start s.stage job v) (HasRead job left)
    (λ d. goes_by shown job d.at.stage c.args.got.now d) stage stage x c.write_change.ensures (there, refl) there (reads_as job (Following s.uri s.start) left there.job_is tt)
    (λ t d. λ i. goes_by shown (there.job_is i) (is i) (c.in-Change.is i) (standing (place t stage) d))
    (goes_fronts shown job c.args.got.now)
