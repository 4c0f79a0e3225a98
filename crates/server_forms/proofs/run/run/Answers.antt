use Rattle.std.proofs.Common.{Err, ap, inl, refl}
use Rattle.etp_outside.specs.declared.status.Status.TheVariants.{Done, Usage, ReadFault, WriteFault, ListenFault}
use Rattle.server_forms.specs.Commands.{as_command}
use Rattle.server_forms.specs.Top.{door_of, output_of}
use Rattle.server_forms.proofs.ServingLemmas.{fulfils_of, most_same, never, no_read_fault, no_usage, tries_not, untouched}
use Rattle.server_forms.proofs.run.run.Goals as goal

pub returns-in-Ok-clause-form : goal.returns-in-Ok-clause-form
returns-in-Ok-clause-form g c =
    let L = g.A.Listener in
    tries_not Usage c.serve.result c.in-Ok.config (g.C.Clock.passes c.args.clock.now) (door_of (L.given c.args.door.now) (L.given c.serve.new.door) (L.backs c.args.door.now) (L.backs c.serve.new.door))
    (output_of (g.W.Sink.held c.args.out.now) (g.W.Sink.held c.serve.new.out) (g.W.Sink.faults c.args.out.now) (g.W.Sink.faults c.serve.new.out)) no_usage (λ e. absurd (cc e)) c.serve.ensures.tries

pub returns-in-Ok-clause-fulfils : goal.returns-in-Ok-clause-fulfils
returns-in-Ok-clause-fulfils g c =
    let L = g.A.Listener in
    fulfils_of c.serve.result (as_command c.args.command) (g.H.Host.content c.args.host.now) (g.C.Clock.passes c.args.clock.now) (door_of (L.given c.args.door.now) (L.given c.serve.new.door) (L.backs c.args.door.now) (L.backs c.serve.new.door))
    (output_of (g.W.Sink.held c.args.out.now) (g.W.Sink.held c.serve.new.out) (g.W.Sink.faults c.args.out.now) (g.W.Sink.faults c.serve.new.out)) c.in-Ok.config c.in-Ok.ensures.config c.serve.ensures.tries

pub returns-in-Ok-clause-most : goal.returns-in-Ok-clause-most
returns-in-Ok-clause-most g c = c.serve.ensures.most

pub returns-in-Ok-clause-there : goal.returns-in-Ok-clause-there
returns-in-Ok-clause-there g c = c.serve.ensures.there

pub returns-in-Ok-clause-over : goal.returns-in-Ok-clause-over
returns-in-Ok-clause-over g c = c.serve.ensures.over

pub returns-in-Ok-clause-read_cause : goal.returns-in-Ok-clause-read_cause
returns-in-Ok-clause-read_cause g c = λ is.
    let L = g.A.Listener in
    absurd (tries_not ReadFault c.serve.result c.in-Ok.config (g.C.Clock.passes c.args.clock.now) (door_of (L.given c.args.door.now) (L.given c.serve.new.door) (L.backs c.args.door.now) (L.backs c.serve.new.door))
    (output_of (g.W.Sink.held c.args.out.now) (g.W.Sink.held c.serve.new.out) (g.W.Sink.faults c.args.out.now) (g.W.Sink.faults c.serve.new.out)) no_read_fault (λ e. absurd (cc e)) c.serve.ensures.tries is)

pub returns-in-Ok-clause-write_cause : goal.returns-in-Ok-clause-write_cause
returns-in-Ok-clause-write_cause g c = c.serve.ensures.write_cause

pub returns-in-Ok-clause-listen_cause : goal.returns-in-Ok-clause-listen_cause
returns-in-Ok-clause-listen_cause g c = c.serve.ensures.listen_cause

pub returns-in-Err-clause-form : goal.returns-in-Err-clause-form
returns-in-Err-clause-form g c = never c.in-Err.status Usage (g.H.Host.content c.args.host.now c.args.command.config.now) (λ x. x) c.in-Err.ensures.config

pub returns-in-Err-clause-fulfils : goal.returns-in-Err-clause-fulfils
returns-in-Err-clause-fulfils g c =
    let L = g.A.Listener in
    inl (c.in-Err.ensures.config, untouched (L.given c.args.door.now) (L.given c.args.door.now) (L.backs c.args.door.now) (L.backs c.args.door.now) (g.W.Sink.held c.args.out.now) (g.W.Sink.faults c.args.out.now) (g.W.Sink.faults c.args.out.now) refl refl)

pub returns-in-Err-clause-most : goal.returns-in-Err-clause-most
returns-in-Err-clause-most g c = most_same c.args.command.sessions (g.A.Listener.given c.args.door.now) (g.A.Listener.given c.args.door.now) refl

pub returns-in-Err-clause-there : goal.returns-in-Err-clause-there
returns-in-Err-clause-there g c = inl refl

pub returns-in-Err-clause-over : goal.returns-in-Err-clause-over
returns-in-Err-clause-over g c = λ is. absurd (never c.in-Err.status Done (g.H.Host.content c.args.host.now c.args.command.config.now) (λ x. x) c.in-Err.ensures.config is)

pub returns-in-Err-clause-read_cause : goal.returns-in-Err-clause-read_cause
returns-in-Err-clause-read_cause g c = λ is. c.in-Err.ensures.cause (ap Err is)

pub returns-in-Err-clause-write_cause : goal.returns-in-Err-clause-write_cause
returns-in-Err-clause-write_cause g c = λ is. absurd (never c.in-Err.status WriteFault (g.H.Host.content c.args.host.now c.args.command.config.now) (λ x. x) c.in-Err.ensures.config is)

pub returns-in-Err-clause-listen_cause : goal.returns-in-Err-clause-listen_cause
returns-in-Err-clause-listen_cause g c = λ is. absurd (never c.in-Err.status ListenFault (g.H.Host.content c.args.host.now c.args.command.config.now) (λ x. x) c.in-Err.ensures.config is)
