use Rattle.std.proofs.Common.{[]}
use Rattle.gathered_text.proofs.GoingLemmas.{going_end, going_failed}
use Rattle.gathered_text.proofs.writing.finish.Goals as goal

pub returns-in-Done-clause-written : goal.returns-in-Done-clause-written
returns-in-Done-clause-written g c = λ whole before going.
    going_end whole c.args.text.now before (g.W.Sink.held c.args.out.now) (g.W.Sink.held c.write_all.new.sink) going c.in-Done.ensures.bytes

pub returns-in-Failed-clause-written : goal.returns-in-Failed-clause-written
returns-in-Failed-clause-written g c = λ whole before going.
    going_failed whole c.args.text.now [] before (g.W.Sink.held c.args.out.now) going (g.W.Sink.held c.write_all.new.sink) c.in-Failed.ensures.bytes
