use Rattle.std.proofs.Common.{subst, sym}
use Rattle.client_forms.specs.Ctl.{writes}
use Rattle.client_forms.specs.Work.{Works, input, line, output, outside}
use Rattle.client_forms.proofs.WorkLemmas.{write_works}
use Rattle.client_forms.proofs.talk.write.Goals as goal

pub returns-clause-works : goal.returns-clause-works
returns-clause-works g c = λ p.
    let a = c.io.inside in
    let l = line (g.L.Link.talk a.link) (g.L.Link.faults a.link) (g.L.Link.ended a.link) in
    let told = g.C.Clock.told a.clock in
    let o = output (g.W.Sink.held a.out) (g.W.Sink.faults a.out) in
    let q = output (g.W.Sink.held c.write_all.new.sink) (g.W.Sink.faults c.write_all.new.sink) in
    let i = input (g.R.Source.left a.from) (g.R.Source.faults a.from) in
    subst (λ x. Works c.written_by.result (writes c.args.bytes.now) p p x (outside l told q i)) c.io.view_is
    (subst (λ r. Works r (writes c.args.bytes.now) p p (outside l told o i) (outside l told q i)) (sym c.written_by.ensures)
    (write_works c.write_all.result c.args.bytes.now p l told o q i c.write_all.ensures.kept c.write_all.ensures.bytes c.write_all.ensures.cause))
