use Rattle.std.proofs.Common.{refl, subst, ap}
use Rattle.store_hub.specs.declared.hub.Hub.{Hub}
use Rattle.store_hub.specs.Passes.{known, config_of, IsPassOf}
use Rattle.etp_serve.specs.Accepted.{end_number}
use Rattle.etp_serve.proofs.AcceptLemmas.{accepts_as, accepts_served, done_as, took_as}
use Rattle.etp_serve.proofs.children.join_child.Goals as goal

pub take_in-requires-clause-ended : goal.take_in-requires-clause-ended
take_in-requires-clause-ended g c = λ κs w. subst (λ (h : Hub). IsPassOf h c.join-finished.result.pass) c.requires.hub c.join-finished.ensures.0

pub take_in-requires-clause-closed : goal.take_in-requires-clause-closed
take_in-requires-clause-closed g c = λ κs w. c.join-finished.ensures.3

pub returns-clause-settles : goal.returns-clause-settles
returns-clause-settles g c = λ end test v0 given0 left b0 begun acc.
    let p = c.args.child.handle.promise in
    let f = c.join-finished.result in
    let config = config_of c.args.hub.now in
    let given = g.A.Listener.given c.args.door.now in
    let v = known c.args.pass.now in
    let u = known c.take_in.new.pass in
    let b = g.A.Listener.backs c.args.door.now in
    let b' = g.A.Listener.backs c.take_in.new.door in
    let a0 = g.A.Link.Link.talk p.link.value in
    let a = g.A.Link.Link.talk f.link in
    let f0 = g.A.Link.Link.faults p.link.value in
    let count = g.A.Link.Link.faults f.link in
    let over = g.A.Link.Link.ended f.link in
    accepts_as end test config v0 u given0 given (g.A.Listener.given c.take_in.new.door) left left b0 b'
    (accepts_served c.room_laws.ensures.full test config v0 given0 b0 end v (known f.pass) u given left b b' p.number f.end a0 a f0 count (g.A.Link.Link.ended p.link.value) over acc
    (done_as (g.C.Clock.passes p.clock.value) test (config_of p.hub.value) config p.number (known f.pass) f.end a0 a f0 count over c.join-finished.ensures.2 begun.test_is (ap config_of begun.hub_is))
    c.take_in.ensures.met begun.late begun.fresh begun.tells
    (took_as b b' given f.pass.number p.number (end_number f.end) (end_number f.end) count over a c.join-finished.ensures.1 refl c.take_in.ensures.back))
    c.take_in.ensures.given refl
