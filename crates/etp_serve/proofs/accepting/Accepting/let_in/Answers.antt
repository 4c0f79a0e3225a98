use Rattle.std.proofs.Common.{length, Err, ap, refl}
use Rattle.store_hub.specs.Passes.{known, config_of}
use Rattle.etp_serve.specs.declared.served.Served.TheVariants.{Stopped, NoMemory}
use Rattle.etp_serve.proofs.AcceptLemmas.{accepts_as, accepts_full, accepts_lack}
use Rattle.etp_serve.proofs.accepting.Accepting.let_in.Goals as goal

pub returns-in-Err-JournalFull-clause-goes : goal.returns-in-Err-JournalFull-clause-goes
returns-in-Err-JournalFull-clause-goes g c =
    let L = g.A.Listener in
    let test = g.C.Clock.passes c.args.self.now.clock.now in
    let config = config_of c.args.self.now.hub.now in
    let v0 = known c.args.self.now.first.value in
    let given0 = L.given c.args.self.now.opened.value in
    let b0 = L.backs c.args.self.now.opened.value in
    let v = known c.args.pass.now in
    let u = known c.enter.new.pass in
    let given = L.given c.args.door.now in
    let left = length c.args.children.now.items in
    let b = L.backs c.args.door.now in
    let a0 = g.A.Link.Link.talk c.args.link in
    let f0 = g.A.Link.Link.faults c.args.link in
    let e0 = g.A.Link.Link.ended c.args.link in
    let t = c.in-Err-JournalFull.ensures.full (ap Err c.in-Err-JournalFull.field-0-is) in
    let b' = L.backs c.refuse_link.new.door in
    accepts_as Stopped test config v0 u given0 given (L.given c.refuse_link.new.door) left left b0 b'
    (accepts_full c.room_laws.ensures.full test config v0 given0 b0 v u t.0 given left b b' a0 f0 e0 c.requires.way t.1 c.requires.link c.requires.tells t.2 c.refuse_link.ensures.back) c.refuse_link.ensures.given refl

pub returns-in-Err-NoMemory-clause-stops : goal.returns-in-Err-NoMemory-clause-stops
returns-in-Err-NoMemory-clause-stops g c =
    let L = g.A.Listener in
    let test = g.C.Clock.passes c.args.self.now.clock.now in
    let config = config_of c.args.self.now.hub.now in
    let v0 = known c.args.self.now.first.value in
    let given0 = L.given c.args.self.now.opened.value in
    let b0 = L.backs c.args.self.now.opened.value in
    let v = known c.args.pass.now in
    let u = known c.enter.new.pass in
    let given = L.given c.args.door.now in
    let left = length c.args.children.now.items in
    let b = L.backs c.args.door.now in
    let a0 = g.A.Link.Link.talk c.args.link in
    let f0 = g.A.Link.Link.faults c.args.link in
    let e0 = g.A.Link.Link.ended c.args.link in
    let t = c.in-Err-NoMemory.ensures.lack (ap Err c.in-Err-NoMemory.field-0-is) in
    let b' = L.backs c.refuse_link-in-Err-NoMemory.new.door in
    accepts_as NoMemory test config v0 u given0 given (L.given c.refuse_link-in-Err-NoMemory.new.door) left left b0 b'
    (accepts_lack c.room_laws.ensures.full test config v0 given0 b0 v u t.0 given left b b' a0 f0 e0 c.requires.way t.1 c.requires.link c.requires.tells c.refuse_link-in-Err-NoMemory.ensures.back) c.refuse_link-in-Err-NoMemory.ensures.given refl
