use Rattle.store_machine.proofs.ConflictLemmas.{conflict-first, conflict-free}
use Rattle.store_machine.proofs.laws.conflict_laws.Goals as goal

pub returns-clause-free : goal.returns-clause-free
returns-clause-free c = conflict-free

pub returns-clause-first : goal.returns-clause-first
returns-clause-first c = conflict-first
