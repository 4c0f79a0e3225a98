use Rattle.journal_file.proofs.ReadingLaws.{opens_once, opens_refuses}
use Rattle.journal_file.proofs.laws.one_reading.Goals as goal

pub returns-clause-once : goal.returns-clause-once
returns-clause-once c = opens_once

pub returns-clause-not_refused : goal.returns-clause-not_refused
returns-clause-not_refused c = opens_refuses
