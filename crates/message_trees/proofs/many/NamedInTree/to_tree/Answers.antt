use Rattle.etp_schema.proofs.PartLemmas.{named_holds}
use Rattle.message_trees.proofs.many.NamedInTree.to_tree.Goals as goal

pub returns-clause-typed : goal.returns-clause-typed
returns-clause-typed g c = named_holds g.T.Typed.form c.args.self.now c.in_ok-trees.ensures.typed
