use Rattle.etp_values.proofs.IdTextLemmas.{id_of-id_text}
use Rattle.etp_values.proofs.uri.laws.id_texts.Goals as goal

pub returns : goal.returns
returns c = id_of-id_text
