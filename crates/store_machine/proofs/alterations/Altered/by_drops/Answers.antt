use Rattle.std.proofs.Common.{sym, subst, map}
use Rattle.store_machine.specs.History.{DropSpace}
use Rattle.store_machine.specs.Marking.{Alters}
use Rattle.store_machine.proofs.MarkedLemmas.{keys-dropped}
use Rattle.store_machine.proofs.alterations.Altered.by_drops.Goals as goal

pub returns : goal.returns
returns c = subst (λ X. X) (λ j. Alters (map DropSpace c.args.paths.now) (sym c.in_ok-own.ensures j) (sym c.in_ok-whole.ensures j)) (keys-dropped c.args.paths.now)
