use Rattle.std.proofs.Common.{◌≡◌, List, length, refl, sym, subst, arith}
use Rattle.std.specs.declared.option.Option.{Option}
use Rattle.etp_outside.specs.Doors.{Back}
use Rattle.store_hub.specs.Passes.{known, config_of}
use Rattle.etp_serve.specs.Accepted.{Accepts}
use Rattle.etp_serve.specs.declared.served.Served.TheVariants.{NoMemory}
use Rattle.etp_serve.proofs.AcceptLemmas.{accepts_as, accepts_until}
use Rattle.etp_serve.proofs.accepting.Accepting.welcome.Goals as goal

pub returns-in-NoMemory-clause-stops : goal.returns-in-NoMemory-clause-stops
returns-in-NoMemory-clause-stops g c =
    let L = g.A.Listener in
    let test = g.C.Clock.passes c.args.self.now.clock.now in
    let config = config_of c.args.self.now.hub.now in
    let v0 = known c.args.self.now.first.value in
    let given0 = L.given c.args.self.now.opened.value in
    let b0 = L.backs c.args.self.now.opened.value in
    let v = known c.args.pass.now in
    let given = L.given c.args.door.now in
    let left = length c.args.children.now.items in
    let b = L.backs c.args.door.now in
    let same : L.given c.next.new.self ≡ given = omega (arith, c.in-NoMemory.ensures.given) in
    subst (λ (x : Option (List Back)). Accepts NoMemory test config v0 v given0 (L.given c.next.new.self) left b0 x) (sym c.in-NoMemory.ensures.backs)
    (accepts_as NoMemory test config v0 v given0 given (L.given c.next.new.self) left left b0 b (accepts_until test config v0 given0 b0 NoMemory v given left b c.requires.way) same refl)
