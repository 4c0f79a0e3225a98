use Rattle.client_forms.specs.Ctl.{ctl}
use Rattle.client_forms.specs.Top.{dials, server_of}
use Rattle.client_forms.specs.Work.{input, output}
use Rattle.client_forms.proofs.DialingLemmas.{cause_earlier, dialed_to, failed_dial, no_room}
use Rattle.client_forms.proofs.run.run_at.Goals as goal

pub returns-in-Link-clause-runs : goal.returns-in-Link-clause-runs
returns-in-Link-clause-runs g c = λ shown job there.
    let told = g.C.Clock.told c.args.streams.clock in
    let o = output (g.W.Sink.held c.args.streams.out) (g.W.Sink.faults c.args.streams.out) in
    let i = input (g.R.Source.left c.args.streams.input) (g.R.Source.faults c.args.streams.input) in
    let d = dials (g.D.Dialer.backs c.args.dialer.now) (g.D.Dialer.ended c.args.dialer.now) (g.D.Dialer.faults c.args.dialer.now) in
    let n = dials (g.D.Dialer.backs c.dial.new.self) (g.D.Dialer.ended c.dial.new.self) (g.D.Dialer.faults c.dial.new.self) in
    c.run_over.ensures.runs shown job (server_of c.args.address.now) d (record { backs = c.in-Link.ensures.backs; ended = c.in-Link.ensures.ended; faults = c.in-Link.ensures.kept })
    (dialed_to c.args.address.now _ _ _ _ _ _ c.server_of-port.ensures.0 c.server_of-port.ensures.1 c.path.ensures.value c.in-Link.ensures.link) c.in-Link.ensures.tells there

pub returns-in-Link-clause-why : goal.returns-in-Link-clause-why
returns-in-Link-clause-why g c =
    let told = g.C.Clock.told c.args.streams.clock in
    let o = output (g.W.Sink.held c.args.streams.out) (g.W.Sink.faults c.args.streams.out) in
    let i = input (g.R.Source.left c.args.streams.input) (g.R.Source.faults c.args.streams.input) in
    let d = dials (g.D.Dialer.backs c.args.dialer.now) (g.D.Dialer.ended c.args.dialer.now) (g.D.Dialer.faults c.args.dialer.now) in
    let n = dials (g.D.Dialer.backs c.dial.new.self) (g.D.Dialer.ended c.dial.new.self) (g.D.Dialer.faults c.dial.new.self) in
    cause_earlier c.run_over.result.0 i (input (g.R.Source.left c.run_over.result.1.input) (g.R.Source.faults c.run_over.result.1.input)) o (output (g.W.Sink.held c.run_over.result.1.out) (g.W.Sink.faults c.run_over.result.1.out)) told (g.C.Clock.told c.run_over.result.1.clock)
    d n (dials (g.D.Dialer.backs c.run_over.new.dialer) (g.D.Dialer.ended c.run_over.new.dialer) (g.D.Dialer.faults c.run_over.new.dialer)) c.in-Link.ensures.kept (c.run_over.ensures.why c.in-Link.ensures.link.fresh.faultless)

pub returns-in-Failed-clause-runs : goal.returns-in-Failed-clause-runs
returns-in-Failed-clause-runs g c = λ shown job there.
    let told = g.C.Clock.told c.args.streams.clock in
    let o = output (g.W.Sink.held c.args.streams.out) (g.W.Sink.faults c.args.streams.out) in
    let i = input (g.R.Source.left c.args.streams.input) (g.R.Source.faults c.args.streams.input) in
    let d = dials (g.D.Dialer.backs c.args.dialer.now) (g.D.Dialer.ended c.args.dialer.now) (g.D.Dialer.faults c.args.dialer.now) in
    let n = dials (g.D.Dialer.backs c.dial.new.self) (g.D.Dialer.ended c.dial.new.self) (g.D.Dialer.faults c.dial.new.self) in
    failed_dial (server_of c.args.address.now) (ctl shown job) i o told d n c.in-Failed.ensures.backs

pub returns-in-NoMemory-clause-runs : goal.returns-in-NoMemory-clause-runs
returns-in-NoMemory-clause-runs g c = λ shown job there.
    let told = g.C.Clock.told c.args.streams.clock in
    let o = output (g.W.Sink.held c.args.streams.out) (g.W.Sink.faults c.args.streams.out) in
    let i = input (g.R.Source.left c.args.streams.input) (g.R.Source.faults c.args.streams.input) in
    let d = dials (g.D.Dialer.backs c.args.dialer.now) (g.D.Dialer.ended c.args.dialer.now) (g.D.Dialer.faults c.args.dialer.now) in
    let n = dials (g.D.Dialer.backs c.dial.new.self) (g.D.Dialer.ended c.dial.new.self) (g.D.Dialer.faults c.dial.new.self) in
    no_room (server_of c.args.address.now) (ctl shown job) i o told d n c.in-NoMemory.ensures.backs
