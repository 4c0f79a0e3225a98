use Rattle.etp_outside.proofs.DecimalLemmas.{decimal_IsDecimal, IsDecimal_decimal}
use Rattle.etp_outside.proofs.status.one_numeral.Goals as goal

pub returns-clause-is_one : goal.returns-clause-is_one
returns-clause-is_one c = decimal_IsDecimal

pub returns-clause-alone : goal.returns-clause-alone
returns-clause-alone c = IsDecimal_decimal
