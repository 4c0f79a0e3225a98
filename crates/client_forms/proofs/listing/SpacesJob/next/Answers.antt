use Rattle.std.proofs.Common.{List, true, refl, subst, ap, ◌∙◌}
use Rattle.client_core.specs.declared.ask.Ask.TheVariants as asked
use Rattle.client_core.specs.declared.got.Space.{Space}
use Rattle.client_forms.specs.Ctl.{Asked, Listing, goes_by}
use Rattle.client_forms.specs.Jobs.{HasRead, IsList, stage_of}
use Rattle.client_forms.specs.Plans.{GivesAction, Waits, standing}
use Rattle.client_forms.specs.Texts.{space_lines}
use Rattle.client_forms.specs.Work.{input, outside, place}
use Rattle.client_forms.specs.declared.action.Action.TheVariants as action
use Rattle.client_forms.proofs.PlanningLemmas.{goes_fronts, plan_alone, plan_given, reads_as}
use Rattle.client_forms.proofs.listing.SpacesJob.next.Goals as goal

pub returns-in-Spaces-clause-plans : goal.returns-in-Spaces-clause-plans
returns-in-Spaces-clause-plans g c = λ shown job stage l told o there.
    let left = g.R.Source.left c.args._from.now in
    let x = outside l told o (input left (g.R.Source.faults c.args._from.now)) in
    let asked = c.args.self.now.asked in
    plan_given c.show_spaces.result (action.Report (space_lines c.in-Spaces.spaces)) (λ v rest. IsList asked job v × Waits rest) (λ v. IsList asked job v) (HasRead job left)
    (λ d. goes_by shown job d.at.stage c.args.got.now d) stage stage x (subst (λ (ss : List Space). GivesAction c.show_spaces.result (action.Report (space_lines ss))) c.as_slice.ensures c.show_spaces.ensures) (there, refl) there (reads_as job Listing left there.job_is tt)
    (λ s d. λ i. goes_by shown (there.job_is i) ((there.stage_is ∙ ap stage_of c.if-self.true) i) (c.in-Spaces.is i) (standing (place s stage) d))
    (goes_fronts shown job c.args.got.now)

pub returns-in-Opened-clause-plans : goal.returns-in-Opened-clause-plans
returns-in-Opened-clause-plans g c = λ shown job stage l told o there.
    let left = g.R.Source.left c.args._from.now in
    let is = there.stage_is ∙ ap stage_of c.if-self.false in
    let now : IsList true job Asked = record { job_is = there.job_is; stage_is = refl } in
    plan_alone (λ v rest. IsList true job v × Waits rest) (λ v. IsList true job v) (HasRead job left)
    (λ d. goes_by shown job d.at.stage c.args.got.now d) stage Asked (action.Ask asked.Spaces) (now, refl) now (reads_as job Listing left there.job_is tt)
    (λ s d. λ i. goes_by shown (there.job_is i) (is i) (c.in-Opened.is i) (standing (place s (is i)) d))
