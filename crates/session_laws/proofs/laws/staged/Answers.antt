use Rattle.session_laws.proofs.StagedLemmas.{calls_within, looks_add_nothing, uncommitted_is_unseen}
use Rattle.session_laws.proofs.laws.staged.Goals as goal

pub returns : goal.returns
returns c = record { calls = calls_within; looks = looks_add_nothing; unseen = uncommitted_is_unseen }
