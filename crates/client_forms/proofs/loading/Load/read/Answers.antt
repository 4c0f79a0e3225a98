use Rattle.std.proofs.Common.{Ok, ap, sym, subst, ◌∙◌}
use Rattle.point_lines.specs.Lines.{lines_in}
use Rattle.client_forms.specs.Ctl.{Loading}
use Rattle.client_forms.specs.Filling.{Fills, HasLoaded}
use Rattle.client_forms.specs.declared.action.Action.TheVariants as action
use Rattle.client_forms.proofs.LoadLemmas.{plan_full, plan_last, read_stops, reads_rests}
use Rattle.client_forms.proofs.loading.Load.read.Goals as goal

pub returns-in-Ok-Some-clause-plans : goal.returns-in-Ok-Some-clause-plans
returns-in-Ok-Some-clause-plans g c = λ seen shown job rest l told o h.
    let left = g.R.Source.left c.fill.new.from in
    plan_full c.args.self.now.uri c.fill.new.self job left h.bytes rest c.in-Ok-Some.full (action.Ask c.into_ask.result) h.job_is
    (subst (λ t. Fills (Ok t) h.bytes left (g.R.Source.faults c.args.from.now) (g.R.Source.faults c.fill.new.from) c.fill.new.self rest) c.in-Ok-Some.field-0-is (c.in-Ok-Some.ensures.fills h.bytes rest h.reads))
    (ap action.Ask c.into_ask.ensures)

pub returns-in-Ok-None-clause-plans : goal.returns-in-Ok-None-clause-plans
returns-in-Ok-None-clause-plans g c = λ seen shown job rest l told o h.
    let left = g.R.Source.left c.fill.new.from in
    let all = subst (λ t. Fills (Ok t) h.bytes left (g.R.Source.faults c.args.from.now) (g.R.Source.faults c.fill.new.from) c.fill.new.self rest) c.in-Ok-None.field-0-is (c.in-Ok-None.ensures.fills h.bytes rest h.reads) in
    let now = c.send_last.new.self in
    let loaded : HasLoaded now.uri now.reader job left = record {
      lines = lines_in h.bytes;
      job_is = h.job_is ∙ ap (λ u. Loading u (lines_in h.bytes)) (sym c.send_last.ensures.same.0);
      count = all.count ∙ sym c.send_last.ensures.same.1;
      end = all.end;
    } in
    plan_last all.held now.uri now.reader job left rest c.send_last.result now.stage c.fill.new.self.batch.channel loaded (c.send_last.ensures.wants all.held all.holds) all.same

pub returns-in-Err-clause-plans : goal.returns-in-Err-clause-plans
returns-in-Err-clause-plans g c = λ seen shown job rest l told o h.
    read_stops c.in-Err.stop rest l told o (g.R.Source.left c.args.from.now) (g.R.Source.left c.fill.new.from) (g.R.Source.faults c.args.from.now) (g.R.Source.faults c.fill.new.from)
    (reads_rests h.bytes (g.R.Source.left c.args.from.now) c.args.self.now.reader rest h.reads) (c.in-Err.ensures.fills h.bytes rest h.reads)
