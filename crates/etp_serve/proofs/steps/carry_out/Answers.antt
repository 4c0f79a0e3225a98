use Rattle.std.proofs.Common.{refl, inl, inr}
use Rattle.session_core.specs.Session.{end_of}
use Rattle.store_hub.specs.Passes.{known, config_of}
use Rattle.etp_serve.specs.Steps.{Does}
use Rattle.etp_serve.proofs.SettlingLemmas.{if_none_all, goes_by, peer_by, fault_by, stops_by}
use Rattle.etp_serve.proofs.TalkLemmas.{told_none}
use Rattle.etp_serve.proofs.steps.carry_out.Goals as goal

pub returns-in-Err-clause-stops : goal.returns-in-Err-clause-stops
returns-in-Err-clause-stops g c = inl (c.in-Err.ensures.err, told_none (g.L.Link.talk c.args.link.now))

pub returns-in-Done-clause-does : goal.returns-in-Done-clause-does
returns-in-Done-clause-does g c =
    let pass = c.args.pass.now in
    if_none_all c.own_end.result (Does (config_of c.args.hub.now) pass.number pass.entries c.args.asked (known pass) (known c.ask_store.new.pass) c.args.session.now c.drain.new.session (g.L.Link.talk c.args.link.now) (g.L.Link.talk c.drain.new.link))
    record { mid = c.ask_store.new.session; settles = c.in-Ok.ensures.ok; state = c.in-Done.ensures.talk.0; talk = c.in-Done.ensures.talk.1 }

pub returns-in-Done-clause-goes : goal.returns-in-Done-clause-goes
returns-in-Done-clause-goes g c = goes_by (end_of c.drain.new.session.phase) c.own_end.result c.own_end.ensures

pub returns-in-Done-clause-stops : goal.returns-in-Done-clause-stops
returns-in-Done-clause-stops g c =
    let pass = c.args.pass.now in
    stops_by (config_of c.args.hub.now) pass.number pass.entries c.args.asked (known pass) (known c.ask_store.new.pass) c.args.session.now (g.L.Link.talk c.args.link.now) (g.L.Link.talk c.drain.new.link) c.drain.new.session c.own_end.result c.own_end.ensures
    record { mid = c.ask_store.new.session; settles = c.in-Ok.ensures.ok; state = c.in-Done.ensures.talk.0; talk = c.in-Done.ensures.talk.1 }

pub returns-in-Done-clause-cause : goal.returns-in-Done-clause-cause
returns-in-Done-clause-cause g c = λ is. absurd (fault_by (end_of c.drain.new.session.phase) c.own_end.result c.own_end.ensures is)

pub returns-in-Done-clause-peer : goal.returns-in-Done-clause-peer
returns-in-Done-clause-peer g c = peer_by (end_of c.drain.new.session.phase) c.own_end.result c.own_end.ensures

pub returns-in-Failed-clause-stops : goal.returns-in-Failed-clause-stops
returns-in-Failed-clause-stops g c = record { mid = c.ask_store.new.session; settles = c.in-Ok.ensures.ok; talk = c.in-Failed.ensures.talk }

pub returns-in-NoMemory-clause-stops : goal.returns-in-NoMemory-clause-stops
returns-in-NoMemory-clause-stops g c = inr record { mid = c.ask_store.new.session; settles = c.in-Ok.ensures.ok; talk = c.in-NoMemory.ensures.talk }

pub returns-in-Failed-clause-cause : goal.returns-in-Failed-clause-cause
returns-in-Failed-clause-cause g c = λ is. c.in-Failed.ensures.cause refl
