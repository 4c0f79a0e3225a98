use Rattle.std.proofs.Common.{[], rules, ◌∙◌, FitsSigned, w64, to_z-of_z}
use Rattle.point_lines.specs.Lines.{lines_in}
use Rattle.client_forms.specs.Ctl.{Asked, goes_by, loads_from}
use Rattle.client_forms.specs.Filling.{IsLoad, OwesLoad}
use Rattle.client_forms.specs.Jobs.{HasRead}
use Rattle.client_forms.specs.Plans.{standing}
use Rattle.client_forms.specs.Work.{input, outside, place}
use Rattle.client_forms.proofs.LoadLemmas.{asked_is, first_loading, load_done, load_opened, plans_refit, waits_asked, waits_loaded, waits_opening}
use Rattle.client_forms.proofs.PlanningLemmas.{goes_fronts}
use Rattle.client_forms.proofs.loading.LoadJob.next.Goals as goal

pub returns-in-Opened-clause-plans : goal.returns-in-Opened-clause-plans
returns-in-Opened-clause-plans g c = λ shown job stage l told o h.
    let s = c.args.self.now in
    let left = g.R.Source.left c.args.from.now in
    load_opened shown c.args.got.now s.uri s.stage s.reader job left stage h c.open_channel.result c.in-Opened.field-0 (outside l told o (input left (g.R.Source.faults c.args.from.now))) c.in-Opening.is c.in-Opened.is c.open_channel.ensures

pub returns-in_default-got : goal.returns-in_default-got
returns-in_default-got g c = record {
  plans = λ shown job stage l told o h. let s = c.args.self.now in waits_opening shown c.args.got.now s.uri s.stage s.reader job (g.R.Source.left c.args.from.now) stage h c.in-Opening.is c.in_default-got.not-Opened;
  kept = search rules;
  why = search rules;
}

pub returns-in-Meta-clause-plans : goal.returns-in-Meta-clause-plans
returns-in-Meta-clause-plans g c = λ shown job stage l told o h.
    let s = c.args.self.now in
    let now = c.read.new.self in
    let before = g.R.Source.left c.args.from.now in
    let left = g.R.Source.left c.read.new.from in
    let x = outside l told o (input before (g.R.Source.faults c.args.from.now)) in
    let y = outside l told o (input left (g.R.Source.faults c.read.new.from)) in
    let k = asked_is s.uri s.stage s.reader job before stage c.in-Asked.is h in
    let fits : FitsSigned w64 c.in-Meta.channel = search rules in
    let f = loads_from c.in-Meta.channel c.in-Meta.kind 1 [] (lines_in k.0.bytes) in
    plans_refit c.read.result (OwesLoad now.uri now.stage now.reader job left) (IsLoad now.uri now.stage now.reader job left) (HasRead job left) f (λ d. goes_by shown job d.at.stage c.args.got.now d) stage x y k.1
    (λ t d. λ i. goes_by shown (k.0.job_is i) Asked (c.in-Meta.is i) (standing (place t Asked) d)) (goes_fronts shown job c.args.got.now)
    (c.read.ensures.plans [] shown job f l told o
    (first_loading s.uri s.reader c.begin.new.self job before c.in-Meta.channel c.in-Meta.kind k.0 c.begin.ensures.0 (c.begin.ensures.1 ∙ to_z-of_z fits) c.begin.ensures.2 c.begin.ensures.3 c.begin.ensures.4))

pub returns-in_default-got-2 : goal.returns-in_default-got-2
returns-in_default-got-2 g c = record {
  plans = λ shown job stage l told o h. let s = c.args.self.now in waits_asked shown c.args.got.now s.uri s.stage s.reader job (g.R.Source.left c.args.from.now) stage h c.in-Asked.is c.in_default-got-2.not-Meta;
  kept = search rules;
  why = search rules;
}

pub returns-in-Pong-clause-plans : goal.returns-in-Pong-clause-plans
returns-in-Pong-clause-plans g c = λ shown job stage l told o h.
    let s = c.args.self.now in
    let left = g.R.Source.left c.args.from.now in
    load_done shown c.args.got.now s.uri s.stage s.reader job left stage h c.show_loaded.result c.in-Pong.field-0 (outside l told o (input left (g.R.Source.faults c.args.from.now))) c.in-Loaded.is c.in-Pong.is c.show_loaded.ensures

pub returns-in_default-got-3 : goal.returns-in_default-got-3
returns-in_default-got-3 g c = record {
  plans = λ shown job stage l told o h. let s = c.args.self.now in waits_loaded shown c.args.got.now s.uri s.stage s.reader job (g.R.Source.left c.args.from.now) stage h c.in-Loaded.is c.in_default-got-3.not-Pong;
  kept = search rules;
  why = search rules;
}
