use Rattle.both_ends.proofs.NoticeLemmas as notices
use Rattle.both_ends.proofs.laws.notices_are_changes.Goals as goal

pub returns-clause-messages : goal.returns-clause-messages
returns-clause-messages c = notices.notices_are_changes c.parts_are_joined.ensures.messages

pub returns-clause-bytes : goal.returns-clause-bytes
returns-clause-bytes c = notices.read_notices_are_changes c.parts_are_joined.ensures.bytes
