use Rattle.std.proofs.Common.{arith, sym, subst, ◌≡◌, [], map}
use Rattle.std.proofs.lemmas.Grind.{common_steps}
use Rattle.store_machine.specs.History.{set_space}
use Rattle.store_machine.specs.Marking.{Alters}
use Rattle.store_machine.proofs.MarkedLemmas.{keys-put}
use Rattle.store_machine.proofs.alterations.Altered.by_puts.Goals as goal

pub returns : goal.returns
returns c = λ at.
    let none : c.from_vec-whole.result ≡ [] = grind (arith, common_steps) in
    subst (λ X. X) (λ j. Alters (map (set_space at) c.args.puts.now) (sym c.in_ok-own.ensures j) (sym none j)) (keys-put at c.args.puts.now)
