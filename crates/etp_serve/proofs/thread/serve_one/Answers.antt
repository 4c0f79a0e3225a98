use Rattle.std.proofs.Common.{Some, ap, ◌∙◌}
use Rattle.store_hub.specs.Passes.{known, config_of}
use Rattle.etp_serve.proofs.AcceptLemmas.{done_of, done_closed}
use Rattle.etp_serve.proofs.thread.serve_one.Goals as goal

pub returns-clause-done : goal.returns-clause-done
returns-clause-done g c =
    let s = c.serve_session-end in
    let config = config_of c.args.hub.now in
    let n = c.args.pass.number in
    let v = known s.new.pass in
    let test = g.C.Clock.passes c.args.clock in
    let a0 = g.L.Link.talk c.args.link in
    let f0 = g.L.Link.faults c.args.link in
    done_closed test config n v s.result a0 (g.L.Link.talk s.new.link) (g.L.Link.talk c.close.new.self) f0 (g.L.Link.faults s.new.link) (g.L.Link.faults c.close.new.self) (g.L.Link.ended s.new.link) (g.L.Link.ended c.close.new.self)
    (done_of s.result config n v a0 (g.L.Link.talk s.new.link) (g.C.Clock.told c.args.clock) (g.C.Clock.told s.new.clock) test (g.C.Clock.passes s.new.clock) f0 (g.L.Link.faults s.new.link) (g.L.Link.ended s.new.link)
    s.ensures.serves s.ensures.cause (s.new.pass.kept.0 ∙ ap Some s.ensures.own.1) (s.ensures.met ∙ c.requires.alone) c.requires.anew c.moments_pass.ensures c.moments_pass-2.ensures s.ensures.test)
    (c.close.ensures.talk ∙ c.leave.ensures.talk) (c.close.ensures.faults ∙ c.leave.ensures.faults) (c.close.ensures.ended ∙ c.leave.ensures.ended)
