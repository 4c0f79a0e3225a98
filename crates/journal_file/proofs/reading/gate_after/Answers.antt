use Rattle.std.proofs.Common.{◌∙◌}
use Rattle.journal_file.proofs.OpeningLemmas.{same_bytes, head_split}
use Rattle.journal_file.proofs.reading.gate_after.Goals as goal

pub returns-clause-ok : goal.returns-clause-ok
returns-clause-ok c =
    let magic = same_bytes c.ne.result _ _ c.ne.ensures c.if-ne.false ∙ c.as_slice.ensures in
    let id = same_bytes c.ne-2.result _ _ c.ne-2.ensures c.if-ne-2.false ∙ c.as_slice-2.ensures ∙ c.as_bytes.ensures.value in
    (head_split c.args.head.now c.args.id c.requires magic id, c.as_bytes.ensures.len)
