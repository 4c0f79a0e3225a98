use Rattle.std.proofs.Common.{◌∙◌, ap}
use Rattle.uuid.specs.Text.{hyphenated_text, lower}
use Rattle.etp_values.proofs.IdTextLemmas.{id_text_is}
use Rattle.etp_values.proofs.id.Id16.write.Goals as goal

pub returns : goal.returns
returns c =
    c.encode_lower.ensures.text ∙ ap (hyphenated_text lower) (c.hyphenated.ensures ∙ c.from_bytes-id.ensures ∙ c.as_bytes.ensures.value)
    ∙ id_text_is c.args.self.now
