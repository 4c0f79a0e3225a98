use Rattle.std.proofs.Common.{◌∙◌, arith}
use Rattle.etp_serve.proofs.accepting.Accepting.make_room.Goals as goal

pub returns-then-len-lt-MOST-clause-keeps : goal.returns-then-len-lt-MOST-clause-keeps
returns-then-len-lt-MOST-clause-keeps g c =
    let now = c.settle_ended.ensures.keeps in
    let before = c.loop.invariant in
    (now.0 ∙ before.number, omega (arith, now.1, before.fewer), now.2 ∙ before.capacity, now.3 ∙ before.given, now.4 ∙ before.stopped, omega (arith, now.5, before.kept), now.6 ∙ before.at)
