use Rattle.std.proofs.Common.{refl, subst}
use Rattle.etp_outside.specs.declared.status.Status.TheVariants.{Done}
use Rattle.client_forms.specs.Ctl.{closes, writes}
use Rattle.client_forms.specs.Work.{Stops, input, line, output, outside, place}
use Rattle.client_forms.specs.declared.stop.Cause.TheVariants as cause
use Rattle.client_forms.specs.declared.stop.Stop.TheVariants as stop
use Rattle.client_forms.proofs.CourseLemmas.{closes_grows}
use Rattle.client_forms.proofs.ChainLemmas.{breaks_later, goes_stops}
use Rattle.client_forms.proofs.WorkLemmas.{write_goes, write_breaks}
use Rattle.client_forms.proofs.talk.report.Goals as goal

pub returns-in-Done-clause-stops : goal.returns-in-Done-clause-stops
returns-in-Done-clause-stops g c = λ stage.
    let a = c.io.inside in
    let l = line (g.L.Link.talk a.link) (g.L.Link.faults a.link) (g.L.Link.ended a.link) in
    let told = g.C.Clock.told a.clock in
    let o = output (g.W.Sink.held a.out) (g.W.Sink.faults a.out) in
    let q = output (g.W.Sink.held c.write_all.new.sink) (g.W.Sink.faults c.write_all.new.sink) in
    let i = input (g.R.Source.left a.from) (g.R.Source.faults a.from) in
    let p = place c.args.client.now stage in
    subst (λ x. Stops c.close.result (λ d. closes Done (writes c.args.bytes.now d)) p x c.close.new.io) c.io.view_is
    (goes_stops c.close.result (writes c.args.bytes.now) (closes Done) p p (outside l told o i) (outside l told q i) c.close.new.io
    (write_goes c.args.bytes.now p l told o q i c.in-Done.ensures.kept c.in-Done.ensures.bytes) (c.close.ensures.stops stage tt))

pub returns-in-Failed-clause-stops : goal.returns-in-Failed-clause-stops
returns-in-Failed-clause-stops g c = λ stage.
    let a = c.io.inside in
    let l = line (g.L.Link.talk a.link) (g.L.Link.faults a.link) (g.L.Link.ended a.link) in
    let told = g.C.Clock.told a.clock in
    let o = output (g.W.Sink.held a.out) (g.W.Sink.faults a.out) in
    let q = output (g.W.Sink.held c.write_all.new.sink) (g.W.Sink.faults c.write_all.new.sink) in
    let i = input (g.R.Source.left a.from) (g.R.Source.faults a.from) in
    let p = place c.args.client.now stage in
    subst (λ x. Stops (stop.Cut cause.Output) (λ d. closes Done (writes c.args.bytes.now d)) p x (outside l told q i)) c.io.view_is (
      breaks_later (writes c.args.bytes.now) (closes Done) p (outside l told o i) (outside l told q i) (closes_grows Done)
          (write_breaks c.args.bytes.now p l told o q i c.in-Failed.ensures.kept c.in-Failed.ensures.bytes),
      c.in-Failed.ensures.cause refl,
    )
