use Rattle.std.proofs.Common.{rules, ◌≡◌, length, refl, ap, ◌∙◌, arith}
use Rattle.store_hub.specs.Passes.{known, config_of}
use Rattle.etp_serve.specs.Accepted.{IsDone, end_number}
use Rattle.etp_serve.specs.declared.served.Served.TheVariants.{Stopped}
use Rattle.etp_serve.specs.declared.thread.Started.{Started}
use Rattle.etp_serve.proofs.AcceptLemmas.{accepts_as, accepts_served, begun_as, done_as, pushed, took_as}
use Rattle.etp_serve.proofs.accepting.Accepting.begin.Goals as goal

pub returns-in-Err-clause-way : goal.returns-in-Err-clause-way
returns-in-Err-clause-way g c =
    let L = g.A.Listener in
    let test = g.C.Clock.passes c.args.self.now.clock.now in
    let own = g.C.Clock.passes c.another-own.result in
    let config = config_of c.args.self.now.hub.now in
    let v0 = known c.args.self.now.first.value in
    let given0 = L.given c.args.self.now.opened.value in
    let b0 = L.backs c.args.self.now.opened.value in
    let v = known c.args.pass.now in
    let u = known c.take_in.new.pass in
    let given = L.given c.args.door.now in
    let left = length c.args.children.now.items in
    let b = L.backs c.args.door.now in
    let b' = L.backs c.take_in.new.door in
    let f = c.work-finished.result in
    let n = c.args.entered.number in
    let a0 = g.A.Link.Link.talk c.args.link in
    let a = g.A.Link.Link.talk f.link in
    let f0 = g.A.Link.Link.faults c.args.link in
    let count = g.A.Link.Link.faults f.link in
    let over = g.A.Link.Link.ended f.link in
    let number : f.pass.number ≡ n = search rules in
    let done : IsDone own config n (known f.pass) f.end a0 a f0 count over = search rules in
    accepts_as Stopped test config v0 u given0 given (L.given c.take_in.new.door) left left b0 b'
    (accepts_served c.room_laws.ensures.full test config v0 given0 b0 Stopped v (known f.pass) u given left b b' n f.end a0 a f0 count (g.A.Link.Link.ended c.args.link) over c.requires.way
    (done_as own test config config n (known f.pass) f.end a0 a f0 count over done c.another-own.ensures.test refl)
    c.take_in.ensures.met c.requires.late c.requires.link c.requires.tells
    (took_as b b' given f.pass.number n (end_number f.end) (end_number f.end) count over a number refl c.take_in.ensures.back))
    c.take_in.ensures.given refl

pub returns-in-Ok-clause-holds : goal.returns-in-Ok-clause-holds
returns-in-Ok-clause-holds g c =
    let S : Type 0 = Started g.row.A-Link.Denot g.row.C.Denot in
    let is = c.in-Ok.ensures.ok in
    let hub : c.in-Ok.handle.promise.hub.value ≡ c.args.self.now.hub.now = ap (λ (p : S). p.hub.value) is ∙ c.of-started.ensures.hub in
    let clock : c.in-Ok.handle.promise.clock.value ≡ c.another-own.result = ap (λ (p : S). p.clock.value) is ∙ c.of-started.ensures.clock in
    let link : c.in-Ok.handle.promise.link.value ≡ c.args.link = ap (λ (p : S). p.link.value) is ∙ c.of-started.ensures.link in
    let number : c.in-Ok.handle.promise.number ≡ c.args.entered.number = ap (λ (p : S). p.number) is ∙ c.of-started.ensures.number in (
      c.requires.holds.0,
      pushed _ c.args.children.now.items c.put_last.new.children.items _ c.put_last.ensures.items c.requires.holds.1
          (begun_as g.A.Link.Link.talk g.A.Link.Link.faults g.A.Link.Link.ended g.C.Clock.passes c.args.self.now.hub.now (g.C.Clock.passes c.args.self.now.clock.now) (length (known c.args.self.now.first.value).seen)
          (g.A.Listener.backs c.args.self.now.opened.value) c.in-Ok.handle.promise c.args.link c.args.entered.number hub (ap g.C.Clock.passes clock ∙ c.another-own.ensures.test) number link
          c.requires.late c.requires.link c.requires.tells),
    )

pub returns-in-Ok-clause-keeps : goal.returns-in-Ok-clause-keeps
returns-in-Ok-clause-keeps g c = (refl, omega (arith, c.put_last.ensures.more), c.put_last.ensures.capacity, refl, refl, omega arith, refl)
