use Rattle.client_laws.proofs.PartsLemmas as split
use Rattle.client_laws.proofs.RefusedLemmas as refused
use Rattle.client_laws.proofs.laws.parts_are_joined.Goals as goal

pub returns-clause-messages : goal.returns-clause-messages
returns-clause-messages c = split.parts_are_joined

pub returns-clause-bytes : goal.returns-clause-bytes
returns-clause-bytes c = split.read_parts_are_joined

pub returns-clause-refused : goal.returns-clause-refused
returns-clause-refused c = refused.first_is_refused
