use Rattle.etp_frame.proofs.RowLemmas.{row_kind}
use Rattle.etp_frame.proofs.laws.rows_are_typed.Goals as goal

pub returns : goal.returns
returns c = row_kind
