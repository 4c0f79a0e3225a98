use Rattle.std.proofs.Common.{arith, ◌∙◌, sym, refl}
use Rattle.etp_outside.proofs.FaultLemmas.{rose_later}
use Rattle.etp_serve.proofs.DrainedLemmas.{drain_start, drain_step, drain_smaller, drain_done, drain_cut, drain_stopped}
use Rattle.etp_serve.proofs.steps.drain.Goals as goal

pub loop-message-init : goal.loop-message-init
loop-message-init g c = record {
  talk = drain_start c.args.session.now (g.L.Link.talk c.args.link.now);
  usable = c.requires.usable;
  kept = omega arith;
  ended = refl;
}

pub loop-message-preserved : goal.loop-message-preserved
loop-message-preserved g c = record {
  talk = drain_step c.args.session.now c.loop-message.session c.next_out.new.self (g.L.Link.talk c.args.link.now) (g.L.Link.talk c.loop-message.link) (g.L.Link.talk c.send.new.self) c.in-Ok-Some.message c.loop-message.invariant.talk
      (sym c.in-Ok-Some.field-0-is ∙ c.in-Ok-Some.ensures.bytes) c.in-Ok-Some.ensures.state c.in-Done.ensures.talk;
  usable = c.send.ensures.closed ∙ c.loop-message.invariant.usable;
  kept = omega (arith, c.loop-message.invariant.kept, c.send.ensures.kept);
  ended = c.send.ensures.ended ∙ c.loop-message.invariant.ended;
}

pub loop-message-smaller : goal.loop-message-smaller
loop-message-smaller g c = drain_smaller c.loop-message.session c.next_out.new.self c.in-Ok-Some.message (sym c.in-Ok-Some.field-0-is ∙ c.in-Ok-Some.ensures.bytes) c.in-Ok-Some.ensures.state

pub returns-in-Failed-clause-talk : goal.returns-in-Failed-clause-talk
returns-in-Failed-clause-talk g c =
    drain_cut c.args.session.now c.loop-message.session (g.L.Link.talk c.args.link.now) (g.L.Link.talk c.loop-message.link) (g.L.Link.talk c.send.new.self) c.loop-message.invariant.talk c.in-Failed.ensures.talk

pub returns-in-NoMemory-clause-talk : goal.returns-in-NoMemory-clause-talk
returns-in-NoMemory-clause-talk g c =
    drain_cut c.args.session.now c.loop-message.session (g.L.Link.talk c.args.link.now) (g.L.Link.talk c.loop-message.link) (g.L.Link.talk c.send.new.self) c.loop-message.invariant.talk c.in-NoMemory.ensures.talk

pub returns-in-Ok-None-clause-talk : goal.returns-in-Ok-None-clause-talk
returns-in-Ok-None-clause-talk g c =
    drain_done c.args.session.now c.loop-message.session c.next_out.new.self (g.L.Link.talk c.args.link.now) (g.L.Link.talk c.loop-message.link) c.loop-message.invariant.talk
    (sym c.in-Ok-None.field-0-is ∙ c.in-Ok-None.ensures.bytes) c.in-Ok-None.ensures.state

pub returns-in-Err-clause-talk : goal.returns-in-Err-clause-talk
returns-in-Err-clause-talk g c = drain_stopped c.args.session.now c.loop-message.session (g.L.Link.talk c.args.link.now) (g.L.Link.talk c.loop-message.link) c.loop-message.invariant.talk

pub returns-in-Failed-clause-cause : goal.returns-in-Failed-clause-cause
returns-in-Failed-clause-cause g c = λ is.
    rose_later (g.L.Link.faults c.args.link.now) (g.L.Link.faults c.loop-message.link) (g.L.Link.faults c.send.new.self) c.loop-message.invariant.kept (c.in-Failed.ensures.cause refl)

pub returns-in-Failed-clause-ended : goal.returns-in-Failed-clause-ended
returns-in-Failed-clause-ended g c = c.send.ensures.ended ∙ c.loop-message.invariant.ended

pub returns-in-NoMemory-clause-ended : goal.returns-in-NoMemory-clause-ended
returns-in-NoMemory-clause-ended g c = c.send.ensures.ended ∙ c.loop-message.invariant.ended
