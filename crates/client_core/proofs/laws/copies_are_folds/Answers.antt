use Rattle.client_core.proofs.FoldLemmas as folds
use Rattle.client_core.proofs.laws.copies_are_folds.Goals as goal

pub returns : goal.returns
returns c = folds.copies_are_folds
