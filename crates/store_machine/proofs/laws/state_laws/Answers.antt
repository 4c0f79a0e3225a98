use Rattle.store_machine.proofs.ConflictLemmas.{values-between}
use Rattle.store_machine.proofs.ValueLemmas.{value-unaltered, value_after-push, default-stays}
use Rattle.store_machine.proofs.laws.state_laws.Goals as goal

pub returns-clause-changes : goal.returns-clause-changes
returns-clause-changes c = value-unaltered

pub returns-clause-entries : goal.returns-clause-entries
returns-clause-entries c = value_after-push

pub returns-clause-default : goal.returns-clause-default
returns-clause-default c = default-stays

pub returns-clause-between : goal.returns-clause-between
returns-clause-between c = values-between
