use Rattle.std.proofs.Common.{Some, ap, arith}
use Rattle.etp_outside.proofs.FaultLemmas.{rose_later}
use Rattle.load_forms.proofs.writing.write_frames.Goals as goal

pub loop-wrote-init : goal.loop-wrote-init
loop-wrote-init g c = record { going = λ whole before going. going; kept = omega arith }

pub loop-wrote-preserved : goal.loop-wrote-preserved
loop-wrote-preserved g c = record {
  going = λ whole before going. c.in_default.ensures.goes whole before (c.loop-wrote.invariant.going whole before going);
  kept = omega (arith, c.loop-wrote.invariant.kept, c.write_next.ensures.kept);
}

pub returns-in-Some-clause-written : goal.returns-in-Some-clause-written
returns-in-Some-clause-written g c = λ whole before going. c.in-Some.ensures.ends whole before (c.loop-wrote.invariant.going whole before going)

pub returns-in-Some-clause-kept : goal.returns-in-Some-clause-kept
returns-in-Some-clause-kept g c = omega (arith, c.loop-wrote.invariant.kept, c.write_next.ensures.kept)

pub returns-in-Some-clause-cause : goal.returns-in-Some-clause-cause
returns-in-Some-clause-cause g c = λ is.
    rose_later (g.W.Sink.faults c.args.out.now) (g.W.Sink.faults c.loop-wrote.out) (g.W.Sink.faults c.write_next.new.out) c.loop-wrote.invariant.kept (c.in-Some.ensures.cause (ap Some is))
