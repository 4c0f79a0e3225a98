use Rattle.store_machine.proofs.CutLemmas.{cut-noted}
use Rattle.store_machine.proofs.cuts.take_cut.Goals as goal

pub returns : goal.returns
returns c = cut-noted c.args.channels.now c.args.name c.args.cut _ _ _ _ _ _ _ _ c.as_slice.ensures.value c.in_ok-verdict.ensures c.in_ok-note.ensures.verdicts c.in_ok-note.ensures.accepted c.in_ok-note.ensures.named
