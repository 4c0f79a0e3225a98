use Rattle.std.proofs.Common.{List, refl, sym, subst, ap, ◌∙◌}
use Rattle.client_core.specs.declared.ask.Ask.TheVariants as asked
use Rattle.client_forms.specs.Ctl.{Asked, Ranged, Ranging, goes_by}
use Rattle.client_forms.specs.Jobs.{GivesLines, HasRead, IsRange, range_stage}
use Rattle.client_forms.specs.Plans.{Waits, acts, standing}
use Rattle.client_forms.specs.Work.{input, outside, place}
use Rattle.client_forms.specs.declared.action.Action.TheVariants as action
use Rattle.client_forms.specs.declared.ranging.RangeStage.TheVariants as range
use Rattle.etp_values.specs.declared.point.Point.{Point}
use Rattle.point_lines.specs.Spelling.{lines_of}
use Rattle.client_forms.proofs.PlanningLemmas.{goes_fronts, plan_alone, plan_given, plan_lines, reads_as}
use Rattle.client_forms.proofs.ranging.RangeJob.next.Goals as goal

pub returns-in-Opened-clause-plans : goal.returns-in-Opened-clause-plans
returns-in-Opened-clause-plans g c = λ shown job stage l told o there.
    let left = g.R.Source.left c.args._from.now in
    let x = outside l told o (input left (g.R.Source.faults c.args._from.now)) in
    let s = c.args.self.now in
    let is = there.stage_is ∙ ap (λ n. range_stage n s.kind) c.in-Opening.is in
    let now : IsRange s.uri s.from s.to range.Asked s.kind job Asked = record { job_is = there.job_is; stage_is = refl } in
    plan_given c.ask_meta.result (action.Ask (asked.Meta s.uri)) (λ v rest. IsRange s.uri s.from s.to range.Asked s.kind job v × Waits rest) (λ v. IsRange s.uri s.from s.to range.Asked s.kind job v) (HasRead job left)
    (λ d. goes_by shown job d.at.stage c.args.got.now d) stage Asked x c.ask_meta.ensures (now, refl) now (reads_as job (Ranging s.uri s.from s.to) left there.job_is tt)
    (λ t d. λ i. goes_by shown (there.job_is i) (is i) (c.in-Opened.is i) (standing (place t (is i)) d))
    (goes_fronts shown job c.args.got.now)

pub returns-in-Meta-clause-plans : goal.returns-in-Meta-clause-plans
returns-in-Meta-clause-plans g c = λ shown job stage l told o there.
    let left = g.R.Source.left c.args._from.now in
    let s = c.args.self.now in
    let kind = c.in-Meta.kind in
    let is = there.stage_is ∙ ap (λ n. range_stage n s.kind) c.in-Asked.is in
    let now : IsRange s.uri s.from s.to range.Ranged kind job (Ranged kind) = record { job_is = there.job_is; stage_is = refl } in
    plan_alone (λ v rest. IsRange s.uri s.from s.to range.Ranged kind job v × Waits rest) (λ v. IsRange s.uri s.from s.to range.Ranged kind job v) (HasRead job left)
    (λ d. goes_by shown job d.at.stage c.args.got.now d) stage (Ranged kind) c.ask_points.result (now, refl) now (reads_as job (Ranging s.uri s.from s.to) left there.job_is tt)
    (λ t d. (λ i. goes_by shown (there.job_is i) (is i) (c.in-Meta.is i) (standing (place t (is i)) d)) ∙ (λ i. acts (sym c.ask_points.ensures i) (standing (place t (Ranged kind)) d)))

pub returns-in-Points-clause-plans : goal.returns-in-Points-clause-plans
returns-in-Points-clause-plans g c = λ shown job stage l told o there.
    let left = g.R.Source.left c.args._from.now in
    let x = outside l told o (input left (g.R.Source.faults c.args._from.now)) in
    let s = c.args.self.now in
    let is = there.stage_is ∙ ap (λ n. range_stage n s.kind) c.in-Ranged.is in
    plan_lines c.show_points.result (lines_of s.kind c.in-Points.points) (λ v rest. IsRange s.uri s.from s.to s.stage s.kind job v × Waits rest) (λ v. IsRange s.uri s.from s.to s.stage s.kind job v) (HasRead job left)
    (λ d. goes_by shown job d.at.stage c.args.got.now d) stage x (subst (λ (ps : List Point). GivesLines c.show_points.result (lines_of s.kind ps)) c.as_slice.ensures c.show_points.ensures) (there, refl) there (reads_as job (Ranging s.uri s.from s.to) left there.job_is tt)
    (λ t d. λ i. goes_by shown (there.job_is i) (is i) (c.in-Points.is i) (standing (place t stage) d))
    (goes_fronts shown job c.args.got.now)
