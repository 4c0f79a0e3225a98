use Rattle.std.proofs.Common.{[], sym}
use Rattle.std.proofs.lemmas.List.{append-nil}
use Rattle.gathered_text.proofs.GoingLemmas.{going_start}
use Rattle.gathered_text.proofs.writing.write_text.Goals as goal

pub returns-clause-written : goal.returns-clause-written
returns-clause-written g c =
    let text = c.args.text.now in
    let held = g.W.Sink.held c.args.out.now in
    c.finish.ensures.written text held (going_start text text [] held (sym (append-nil text)))
