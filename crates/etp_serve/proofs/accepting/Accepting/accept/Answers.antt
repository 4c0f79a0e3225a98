use Rattle.std.proofs.Common.{length, refl, ap, sym}
use Rattle.store_hub.specs.Passes.{known, config_of}
use Rattle.etp_serve.specs.declared.served.Served.TheVariants.{Stopped, NoMemory}
use Rattle.etp_serve.proofs.AcceptLemmas.{accepts_all, accepts_at, accepts_start, accepts_until, begins}
use Rattle.etp_serve.proofs.accepting.Accepting.accept.Goals as goal

pub returns-in_default-clause-all : goal.returns-in_default-clause-all
returns-in_default-clause-all g c =
    let L = g.A.Listener in
    let test = g.C.Clock.passes c.args.self.now.clock.now in
    let config = config_of c.args.self.now.hub.now in
    let v0 = known c.args.pass.now in
    let given0 = L.given c.args.door.now in
    let b0 = L.backs c.args.door.now in
    accepts_all test config v0 given0 b0 c.laws.ensures NoMemory v0 given0 b0
    (accepts_until test config v0 given0 b0 NoMemory v0 given0 0 b0 (accepts_start test config v0 given0 b0 (begins c.args.pass.now) (g.met.A.Listener.few c.args.door.now)))

pub serve_links-end-requires-clause-way : goal.serve_links-end-requires-clause-way
serve_links-end-requires-clause-way g c = λ κs w.
    let L = g.A.Listener in
    let test = g.C.Clock.passes c.args.self.now.clock.now in
    let config = config_of c.args.self.now.hub.now in
    let v0 = known c.args.pass.now in
    let given0 = L.given c.args.door.now in
    let b0 = L.backs c.args.door.now in
    accepts_at Stopped test config v0 (known c.args.self.now.first.value) v0 given0 (L.given c.args.self.now.opened.value) given0 0 (length c.in-Ok.children.items) b0 (L.backs c.args.self.now.opened.value) b0
    (ap known c.requires.first) (ap L.given c.requires.opened) (ap length c.in-Ok.ensures.items) (ap L.backs c.requires.opened)
    (accepts_start test config v0 given0 b0 (begins c.args.pass.now) (g.met.A.Listener.few c.args.door.now))

pub returns-clause-all : goal.returns-clause-all
returns-clause-all g c =
    let L = g.A.Listener in
    let test = g.C.Clock.passes c.args.self.now.clock.now in
    let config = config_of c.args.self.now.hub.now in
    let v0 = known c.args.pass.now in
    let given0 = L.given c.args.door.now in
    let b0 = L.backs c.args.door.now in
    let end = c.serve_links-end.result in
    let v = known c.settle_all.new.pass in
    let given = L.given c.settle_all.new.door in
    let b = L.backs c.settle_all.new.door in
    accepts_all test config v0 given0 b0 c.laws.ensures end v given b
    (accepts_at end test config (known c.args.self.now.first.value) v0 v (L.given c.args.self.now.opened.value) given0 given 0 0 (L.backs c.args.self.now.opened.value) b0 b
    (sym (ap known c.requires.first)) (sym (ap L.given c.requires.opened)) refl (sym (ap L.backs c.requires.opened))
    (c.settle_all.ensures.settles end c.serve_links-end.ensures.stops))
