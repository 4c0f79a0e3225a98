use Rattle.std.proofs.Common.{◌≡◌, ℤ, Ok, rules, sym, subst, FitsSigned, w64, to_z, of_z, to_z-of_z}
use Rattle.client_core.specs.Asking.{asked}
use Rattle.client_core.specs.Taking.{FailsBy}
use Rattle.client_forms.specs.Ctl.{asks}
use Rattle.client_forms.specs.Work.{Stops, Works, input, line, output, outside, place}
use Rattle.client_forms.proofs.WorkLemmas.{ask_sent, ask_failed}
use Rattle.client_forms.proofs.talk.ask.Goals as goal

pub returns-in-Ok-clause-works : goal.returns-in-Ok-clause-works
returns-in-Ok-clause-works g c = λ stage.
    let f : FitsSigned w64 c.now-moment.result = search rules in
    let same : to_z w64 (of_z w64 c.now-moment.result) ≡ c.now-moment.result = to_z-of_z f in
    let a = c.io.inside in
    let l = line (g.L.Link.talk a.link) (g.L.Link.faults a.link) (g.L.Link.ended a.link) in
    let m = line (g.L.Link.talk c.send_all.new.link) (g.L.Link.faults c.send_all.new.link) (g.L.Link.ended c.send_all.new.link) in
    let told = g.C.Clock.told a.clock in
    let later = g.C.Clock.told c.now-moment.new.self in
    let o = output (g.W.Sink.held a.out) (g.W.Sink.faults a.out) in
    let i = input (g.R.Source.left a.from) (g.R.Source.faults a.from) in
    let p = place c.args.client.now stage in
    let q = place c.send_all.new.client stage in
    subst (λ x. Works c.sent_by.result (asks c.args.ask) p q x (outside m later o i)) c.io.view_is
    (subst (λ r. Works r (asks c.args.ask) p q (outside l told o i) (outside m later o i)) (sym c.sent_by.ensures)
    (ask_sent c.send_all.result c.args.ask c.now-moment.result c.in-Ok.field-0 c.args.client.now c.ask.new.self c.send_all.new.client stage l m told later o i
    (subst (λ (x : ℤ). (asked c.args.client.now c.args.ask x).result ≡ Ok c.in-Ok.field-0) same c.in-Ok.ensures.0) (subst (λ (x : ℤ). c.ask.new.self ≡ (asked c.args.client.now c.args.ask x).state) same c.in-Ok.ensures.1) c.send_all.ensures.sent c.send_all.ensures.cause (record { kept = c.send_all.ensures.kept; ended = c.send_all.ensures.ended }) c.now-moment.ensures.told))

pub returns-in-Err-clause-works : goal.returns-in-Err-clause-works
returns-in-Err-clause-works g c = λ stage.
    let f : FitsSigned w64 c.now-moment.result = search rules in
    let same : to_z w64 (of_z w64 c.now-moment.result) ≡ c.now-moment.result = to_z-of_z f in
    let a = c.io.inside in
    let l = line (g.L.Link.talk a.link) (g.L.Link.faults a.link) (g.L.Link.ended a.link) in
    let told = g.C.Clock.told a.clock in
    let later = g.C.Clock.told c.now-moment.new.self in
    let o = output (g.W.Sink.held a.out) (g.W.Sink.faults a.out) in
    let i = input (g.R.Source.left a.from) (g.R.Source.faults a.from) in
    let p = place c.args.client.now stage in
    subst (λ x. Stops c.refused_by.result (asks c.args.ask) p x (outside l later o i)) c.io.view_is
    (subst (λ r. Stops r (asks c.args.ask) p (outside l told o i) (outside l later o i)) (sym c.refused_by.ensures)
    (ask_failed c.in-Err.error c.args.ask c.now-moment.result c.args.client.now c.ask.new.self stage l told later o i (subst (λ (x : ℤ). FailsBy c.in-Err.error (asked c.args.client.now c.args.ask x) c.args.client.now c.ask.new.self) same c.in-Err.ensures) c.now-moment.ensures.told))
