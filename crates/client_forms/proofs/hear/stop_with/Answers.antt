use Rattle.std.proofs.Common.{◌≡◌, refl, sym, subst}
use Rattle.etp_outside.specs.declared.status.Status.TheVariants.{Stopped}
use Rattle.client_forms.specs.Ctl.{breaks, writes}
use Rattle.client_forms.specs.Sending.{shortened}
use Rattle.client_forms.specs.Work.{Stops, input, line, output, outside, place}
use Rattle.client_forms.proofs.BreakingLemmas.{cut_short, stopped_late}
use Rattle.client_forms.proofs.ChainLemmas.{goes_stops}
use Rattle.client_forms.proofs.WorkLemmas.{write_goes}
use Rattle.client_forms.proofs.hear.stop_with.Goals as goal

pub returns-in-Done-clause-stops : goal.returns-in-Done-clause-stops
returns-in-Done-clause-stops g c = λ stage e.
    let a = c.io.inside in
    let l = line (g.L.Link.talk a.link) (g.L.Link.faults a.link) (g.L.Link.ended a.link) in
    let told = g.C.Clock.told a.clock in
    let o = output (g.W.Sink.held a.out) (g.W.Sink.faults a.out) in
    let q = output (g.W.Sink.held c.write_all-written.new.sink) (g.W.Sink.faults c.write_all-written.new.sink) in
    let i = input (g.R.Source.left a.from) (g.R.Source.faults a.from) in
    let p = place c.args.client.now stage in
    subst (λ x. Stops c.break_off-stop.result (λ d. breaks Stopped (writes c.args.bytes.now d)) p x c.break_off-stop.new.io) c.io.view_is
    (goes_stops c.break_off-stop.result (writes c.args.bytes.now) (breaks Stopped) p p (outside l told o i) (outside l told q i) c.break_off-stop.new.io
    (write_goes c.args.bytes.now p l told o q i c.in-Done.ensures.kept c.in-Done.ensures.bytes) (c.break_off-stop.ensures.stops stage e tt))

pub returns-in-Failed-clause-stops : goal.returns-in-Failed-clause-stops
returns-in-Failed-clause-stops g c = λ stage e.
    let a = c.io.inside in
    let l = line (g.L.Link.talk a.link) (g.L.Link.faults a.link) (g.L.Link.ended a.link) in
    let told = g.C.Clock.told a.clock in
    let o = output (g.W.Sink.held a.out) (g.W.Sink.faults a.out) in
    let q = output (g.W.Sink.held c.write_all-written.new.sink) (g.W.Sink.faults c.write_all-written.new.sink) in
    let i = input (g.R.Source.left a.from) (g.R.Source.faults a.from) in
    let p = place c.args.client.now stage in
    let z = c.break_off-stop.new.io in
    let same : outside z.line z.told q i ≡ z = λ n. outside z.line z.told (sym c.break_off-stop.ensures.output n) (sym c.break_off-stop.ensures.input n) in
    subst (λ x. Stops c.shortened.result (λ d. breaks Stopped (writes c.args.bytes.now d)) p x z) c.io.view_is
    (subst (λ r. Stops r (λ d. breaks Stopped (writes c.args.bytes.now d)) p (outside l told o i) z) (sym c.shortened.ensures)
    (subst (λ y. Stops (shortened c.break_off-stop.result) (λ d. breaks Stopped (writes c.args.bytes.now d)) p (outside l told o i) y) same
    (cut_short c.break_off-stop.result (breaks Stopped) stopped_late c.args.bytes.now p l z.line told z.told o q i c.in-Failed.ensures.kept c.in-Failed.ensures.bytes (c.in-Failed.ensures.cause refl)
    (subst (λ y. Stops c.break_off-stop.result (breaks Stopped) p (outside l told q i) y) (sym same) (c.break_off-stop.ensures.stops stage e tt)))))
