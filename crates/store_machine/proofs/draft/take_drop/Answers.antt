use Rattle.store_machine.proofs.JudgingLemmas.{takes-noted}
use Rattle.store_machine.proofs.draft.take_drop.Goals as goal

pub returns : goal.returns
returns c = λ sofar h. takes-noted _ sofar c.args.name c.args.path _ _ _ _ _ _ _ _ (c.in_ok-verdict.ensures sofar h) c.in_ok-note.ensures.verdicts c.in_ok-note.ensures.accepted c.note.ensures.plan
