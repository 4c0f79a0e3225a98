use Rattle.std.proofs.Common.{◌≡◌, ℕ, ℤ, List, ap, sym, ◌∙◌, refl, w64, to_z, of_z, rules, FitsSigned}
use Rattle.std.proofs.lemmas.Int.{to_z-of_z}
use Rattle.std.proofs.Math.Bool.{or-true}
use Rattle.etp_outside.proofs.FaultLemmas.{rose_later}
use Rattle.store_hub.specs.Passes.{known, config_of}
use Rattle.session_core.specs.Arriving.{Event, Receives}
use Rattle.session_core.specs.Run.{takes}
use Rattle.session_core.specs.State.{State}
use Rattle.etp_serve.specs.declared.ended.Ended.TheVariants.{PeerEnd, LinkFault, NoMemory}
use Rattle.session_core.proofs.StepLemmas.{asks_call}
use Rattle.etp_serve.proofs.TurnLemmas.{run_stops, run_idle, message_fails}
use Rattle.etp_serve.proofs.TailLemmas.{message_goes, message_ends}
use Rattle.etp_serve.proofs.serving.receive.Goals as goal

pub returns-in-Idle-clause-goes : goal.returns-in-Idle-clause-goes
returns-in-Idle-clause-goes g c = λ a0 c0 turn.
    run_idle c.laws.ensures (config_of c.args.hub.now) c.args.pass.now.number a0 c0 (known c.args.pass.now) c.args.session.now (g.L.Link.talk c.args.link.now) (g.L.Link.talk c.recv.new.self) (g.C.Clock.told c.args.clock.now) turn c.in-Idle.ensures.talk

pub returns-in-End-clause-stops : goal.returns-in-End-clause-stops
returns-in-End-clause-stops g c = λ a0 c0 turn.
    run_stops c.laws.ensures (config_of c.args.hub.now) c.args.pass.now.number a0 c0 (known c.args.pass.now) c.args.session.now (g.L.Link.talk c.args.link.now) (g.L.Link.talk c.recv.new.self) (g.C.Clock.told c.args.clock.now) PeerEnd turn c.in-End.ensures.talk (λ made said reach. (turn.going, refl))

pub returns-in-Failed-clause-stops : goal.returns-in-Failed-clause-stops
returns-in-Failed-clause-stops g c = λ a0 c0 turn.
    run_stops c.laws.ensures (config_of c.args.hub.now) c.args.pass.now.number a0 c0 (known c.args.pass.now) c.args.session.now (g.L.Link.talk c.args.link.now) (g.L.Link.talk c.recv.new.self) (g.C.Clock.told c.args.clock.now) LinkFault turn c.in-Failed.ensures.talk (λ made said reach. refl)

pub returns-in-NoMemory-clause-stops : goal.returns-in-NoMemory-clause-stops
returns-in-NoMemory-clause-stops g c = λ a0 c0 turn.
    run_stops c.laws.ensures (config_of c.args.hub.now) c.args.pass.now.number a0 c0 (known c.args.pass.now) c.args.session.now (g.L.Link.talk c.args.link.now) (g.L.Link.talk c.recv.new.self) (g.C.Clock.told c.args.clock.now) NoMemory turn c.in-NoMemory.ensures.talk (λ made said reach. tt)

pub returns-in_default-clause-stops : goal.returns-in_default-clause-stops
returns-in_default-clause-stops g c = λ a0 c0 turn.
    message_fails c.laws.ensures (config_of c.args.hub.now) c.args.pass.now.number a0 c0 (known c.args.pass.now) c.args.session.now (g.L.Link.talk c.args.link.now) (g.L.Link.talk c.recv.new.self) (g.C.Clock.told c.args.clock.now)
    (g.C.Clock.told c.now-now.new.self) c.in-Got.bytes c.now-now.result turn c.in-Got.ensures.talk c.now-now.ensures.told

pub carry_out-requires-clause-call : goal.carry_out-requires-clause-call
carry_out-requires-clause-call g c = λ κs w. asks_call c.in-Ok.call (known c.args.pass.now).seen c.in-Ok.ensures.asks

pub returns-clause-goes : goal.returns-clause-goes
returns-clause-goes g c =
    let s : State = c.args.session.now in
    let m : ℤ = c.now-now.result in
    let fits : FitsSigned w64 m = search rules in
    let e : Event = Receives c.in-Got.bytes m in
    let same : Receives c.as_bytes.result.now (to_z w64 (of_z w64 m)) ≡ e = ap (λ (l : List ℕ). Receives l (to_z w64 (of_z w64 m))) c.as_bytes.ensures ∙ ap (Receives c.in-Got.bytes) (to_z-of_z w64 m fits) in
    let is : (takes s e).call ≡ c.in-Ok.call = ap (λ (x : Event). (takes s x).call) (sym same) ∙ sym c.in-Ok.ensures.call in
    let state : c.take.new.self ≡ (takes s e).state = c.in-Ok.ensures.state ∙ ap (λ (x : Event). (takes s x).state) same in
    message_goes c.laws.ensures (config_of c.args.hub.now) c.args.pass.now.number (known c.args.pass.now) (known c.carry_out.new.pass) s c.take.new.self (g.L.Link.talk c.args.link.now) (g.L.Link.talk c.recv.new.self) (g.L.Link.talk c.carry_out.new.link)
    (g.C.Clock.told c.args.clock.now) (g.C.Clock.told c.now-now.new.self) c.in-Got.bytes m (record { at = to_z w64 (of_z w64 m); call = c.in-Ok.call }) c.args.pass.now.entries c.in-Got.ensures.talk c.now-now.ensures.told is state
    (asks_call c.in-Ok.call (known c.args.pass.now).seen c.in-Ok.ensures.asks) c.args.pass.now.kept.2 (to_z-of_z w64 m fits) c.carry_out.new.session c.carry_out.result c.carry_out.ensures.does c.carry_out.ensures.goes

pub returns-clause-stops : goal.returns-clause-stops
returns-clause-stops g c =
    let s : State = c.args.session.now in
    let m : ℤ = c.now-now.result in
    let fits : FitsSigned w64 m = search rules in
    let e : Event = Receives c.in-Got.bytes m in
    let same : Receives c.as_bytes.result.now (to_z w64 (of_z w64 m)) ≡ e = ap (λ (l : List ℕ). Receives l (to_z w64 (of_z w64 m))) c.as_bytes.ensures ∙ ap (Receives c.in-Got.bytes) (to_z-of_z w64 m fits) in
    let is : (takes s e).call ≡ c.in-Ok.call = ap (λ (x : Event). (takes s x).call) (sym same) ∙ sym c.in-Ok.ensures.call in
    let state : c.take.new.self ≡ (takes s e).state = c.in-Ok.ensures.state ∙ ap (λ (x : Event). (takes s x).state) same in
    message_ends c.laws.ensures (config_of c.args.hub.now) c.args.pass.now.number (known c.args.pass.now) (known c.carry_out.new.pass) s c.take.new.self (g.L.Link.talk c.args.link.now) (g.L.Link.talk c.recv.new.self) (g.L.Link.talk c.carry_out.new.link)
    (g.C.Clock.told c.args.clock.now) (g.C.Clock.told c.now-now.new.self) c.in-Got.bytes m (record { at = to_z w64 (of_z w64 m); call = c.in-Ok.call }) c.args.pass.now.entries c.in-Got.ensures.talk c.now-now.ensures.told is state
    (asks_call c.in-Ok.call (known c.args.pass.now).seen c.in-Ok.ensures.asks) c.args.pass.now.kept.2 (to_z-of_z w64 m fits) c.carry_out.result c.carry_out.ensures.stops

pub returns-in-End-clause-ended : goal.returns-in-End-clause-ended
returns-in-End-clause-ended g c = λ is. c.in-End.ensures.ended ∙ or-true (g.L.Link.ended c.args.link.now)

pub returns-in-Failed-clause-cause : goal.returns-in-Failed-clause-cause
returns-in-Failed-clause-cause g c = λ is. c.in-Failed.ensures.cause refl

pub returns-clause-cause : goal.returns-clause-cause
returns-clause-cause g c = λ is.
    rose_later (g.L.Link.faults c.args.link.now) (g.L.Link.faults c.recv.new.self) (g.L.Link.faults c.carry_out.new.link) c.recv.ensures.kept (c.carry_out.ensures.cause is)

pub returns-clause-ended : goal.returns-clause-ended
returns-clause-ended g c = λ is. absurd (c.carry_out.ensures.peer is)
