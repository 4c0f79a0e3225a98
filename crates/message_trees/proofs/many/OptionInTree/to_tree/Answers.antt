use Rattle.etp_schema.proofs.PartLemmas.{none_holds, some_holds}
use Rattle.message_trees.proofs.many.OptionInTree.to_tree.Goals as goal

pub returns-in_ok-new-in-None-clause-typed : goal.returns-in_ok-new-in-None-clause-typed
returns-in_ok-new-in-None-clause-typed g c = rw c.in-None.is (none_holds g.T.Typed.form)

pub returns-in_ok-new-in-Some-clause-typed : goal.returns-in_ok-new-in-Some-clause-typed
returns-in_ok-new-in-Some-clause-typed g c = rw c.in-Some.is (some_holds g.T.Typed.form _ c.in_ok-to_tree-in-Some.ensures.typed)
