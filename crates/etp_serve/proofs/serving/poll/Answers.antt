use Rattle.std.proofs.Common.{pos, ap, sym, ◌∙◌, refl}
use Rattle.store_hub.specs.Passes.{known, config_of}
use Rattle.store_hub.specs.Words.{Known}
use Rattle.session_core.proofs.StepLemmas.{asks_call}
use Rattle.etp_serve.proofs.TurnLemmas.{poll_fails}
use Rattle.etp_serve.proofs.TailLemmas.{poll_goes, poll_ends}
use Rattle.etp_serve.proofs.serving.poll.Goals as goal

pub returns-in_default-clause-stops : goal.returns-in_default-clause-stops
returns-in_default-clause-stops g c = λ a0 c0 d turn.
    poll_fails c.laws.ensures (config_of c.args.hub.now) c.args.pass.now.number a0 c0 (known c.args.pass.now) (known c.front-front.new.pass) c.args.session.now (g.L.Link.talk c.args.link.now) d c.front-front.result turn c.front-front.ensures.least c.front-front.ensures.view

pub carry_out-requires-clause-call : goal.carry_out-requires-clause-call
carry_out-requires-clause-call g c = λ κs w.
    asks_call c.in-Ok.call (known c.front-front.new.pass).seen c.in-Ok.ensures.asks

pub returns-clause-goes : goal.returns-clause-goes
returns-clause-goes g c =
    poll_goes c.laws.ensures (config_of c.args.hub.now) c.args.pass.now.number c.front-front.new.pass.number (known c.args.pass.now) (known c.front-front.new.pass) (known c.carry_out.new.pass) c.args.session.now c.poll.new.self
    (g.L.Link.talk c.args.link.now) (g.L.Link.talk c.carry_out.new.link) c.front-front.result (record { at = pos 0; call = c.in-Ok.call }) c.front-front.new.pass.entries
    c.front-front.ensures.own.1 c.front-front.ensures.least c.front-front.ensures.view (sym c.in-Ok.ensures.call) c.in-Ok.ensures.state
    (asks_call c.in-Ok.call (known c.front-front.new.pass).seen c.in-Ok.ensures.asks)
    c.front-front.new.pass.kept.2 refl c.carry_out.new.session c.carry_out.result c.carry_out.ensures.does c.carry_out.ensures.goes

pub returns-clause-stops : goal.returns-clause-stops
returns-clause-stops g c =
    poll_ends c.laws.ensures (config_of c.args.hub.now) c.args.pass.now.number c.front-front.new.pass.number (known c.args.pass.now) (known c.front-front.new.pass) (known c.carry_out.new.pass) c.args.session.now c.poll.new.self
    (g.L.Link.talk c.args.link.now) (g.L.Link.talk c.carry_out.new.link) c.front-front.result (record { at = pos 0; call = c.in-Ok.call }) c.front-front.new.pass.entries
    c.front-front.ensures.own.1 c.front-front.ensures.least c.front-front.ensures.view (sym c.in-Ok.ensures.call) c.in-Ok.ensures.state
    (asks_call c.in-Ok.call (known c.front-front.new.pass).seen c.in-Ok.ensures.asks)
    c.front-front.new.pass.kept.2 refl c.carry_out.result c.carry_out.ensures.stops

pub returns-in_default-clause-met : goal.returns-in_default-clause-met
returns-in_default-clause-met g c = ap (λ (v : Known). v.met) c.front-front.ensures.view

pub returns-clause-met : goal.returns-clause-met
returns-clause-met g c = c.carry_out.ensures.met ∙ ap (λ (v : Known). v.met) c.front-front.ensures.view
