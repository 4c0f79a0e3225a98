use Rattle.std.proofs.Common.{◌∙◌, ap, List, ℕ, Some}
use Rattle.etp_values.proofs.IdTextLemmas.{id_of_other, id_of_read, id_of_refused}
use Rattle.etp_values.proofs.id.Id16.read.Goals as goal

pub returns-then-text-ne-ID_TEXT_LEN : goal.returns-then-text-ne-ID_TEXT_LEN
returns-then-text-ne-ID_TEXT_LEN c = id_of_other c.args.text.now c.if-text-ne-ID_TEXT_LEN.true

pub returns-in-Ok : goal.returns-in-Ok
returns-in-Ok c = id_of_read c.args.text.now _ c.if-text-ne-ID_TEXT_LEN.false (ap (λ (u : List ℕ). Some u) (c.from_bytes.ensures ∙ c.into_bytes.ensures) ∙ c.in-Ok.ensures.bytes)

pub returns-in-Err : goal.returns-in-Err
returns-in-Err c = id_of_refused c.args.text.now c.if-text-ne-ID_TEXT_LEN.false c.in-Err.ensures.ok.1
