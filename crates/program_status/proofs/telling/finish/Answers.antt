use Rattle.program_status.specs.Told.{told_with}
use Rattle.program_status.proofs.ToldLemmas.{is_told}
use Rattle.program_status.proofs.telling.finish.Goals as goal

pub returns-clause-told : goal.returns-clause-told
returns-clause-told g c =
    is_told g.W.Sink.held g.W.Sink.faults c.args.errors.now c.tell.new.errors c.args.status (told_with c.args.usage.now c.args.status) c.tell.result
    c.tell.ensures.bytes c.tell.ensures.cause c.tell.ensures.untold c.tell.ensures.memory
