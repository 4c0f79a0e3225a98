use Rattle.std.proofs.Common.{refl, sym, ◌∙◌, inl, inr}
use Rattle.store_hub.specs.Passes.{known, config_of}
use Rattle.server_forms.proofs.ServingLemmas.{done_is, listen_fault_is, most_same, serves_with, untouched, write_fault_is}
use Rattle.server_forms.proofs.run.serve.Goals as goal

pub returns-in_default-clause-tries : goal.returns-in_default-clause-tries
returns-in_default-clause-tries g c =
    let L = g.A.Listener in
    inl (refl, untouched (L.given c.args.door.now) (L.given c.args.door.now) (L.backs c.args.door.now) (L.backs c.args.door.now) (g.W.Sink.held c.args.out.now) (g.W.Sink.faults c.args.out.now) (g.W.Sink.faults c.args.out.now) refl refl)

pub returns-in_default-clause-most : goal.returns-in_default-clause-most
returns-in_default-clause-most g c = most_same c.args.most (g.A.Listener.given c.args.door.now) (g.A.Listener.given c.args.door.now) refl

pub returns-clause-tries : goal.returns-clause-tries
returns-clause-tries g c =
    let L = g.A.Listener in
    let s = c.serve_at-served in
    let store = c.close-store in
    let w = c.write_report-reported in
    inr (serves_with c.closing_laws.ensures.served c.closing_laws.ensures.entered s.result w.result c.status_of.result (g.C.Clock.passes c.args.clock.now) c.args.config.now (config_of c.in-Ok.hub) store.result.config (known c.in-Ok.pass) (known s.new.pass)
    (L.given c.args.door.now) (L.given s.new.door) (L.backs c.args.door.now) (L.backs s.new.door) store.result.journal (g.W.Sink.held c.args.out.now) (g.W.Sink.held w.new.out) (g.W.Sink.faults c.args.out.now) (g.W.Sink.faults w.new.out)
    c.in-Ok.ensures.config store.ensures.config c.in-Ok.ensures.view c.entries-entries.ensures.legal store.ensures.knows s.ensures.all c.status_of.ensures w.ensures.written w.ensures.cause)

pub returns-clause-most : goal.returns-clause-most
returns-clause-most g c = c.serve_at-served.ensures.most

pub returns-in_default-clause-there : goal.returns-in_default-clause-there
returns-in_default-clause-there g c = inl refl

pub returns-clause-there : goal.returns-clause-there
returns-clause-there g c = c.serve_at-served.ensures.there

pub returns-clause-over : goal.returns-clause-over
returns-clause-over g c = λ is. c.serve_at-served.ensures.over (done_is c.serve_at-served.result c.write_report-reported.result (sym c.status_of.ensures ∙ is))

pub returns-clause-write_cause : goal.returns-clause-write_cause
returns-clause-write_cause g c = λ is. c.write_report-reported.ensures.cause (write_fault_is c.serve_at-served.result c.write_report-reported.result (sym c.status_of.ensures ∙ is))

pub returns-clause-listen_cause : goal.returns-clause-listen_cause
returns-clause-listen_cause g c = λ is. c.serve_at-served.ensures.cause (listen_fault_is c.serve_at-served.result c.write_report-reported.result (sym c.status_of.ensures ∙ is))
