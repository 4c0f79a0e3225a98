use Rattle.std.proofs.Common.{arith, ◌≡◌, []}
use Rattle.std.proofs.lemmas.Grind.{common_steps}
use Rattle.store_machine.proofs.alterations.Altered.none.Goals as goal

pub returns : goal.returns
returns c =
    let own : c.from_vec-own.result ≡ [] = grind (arith, common_steps) in
    let whole : c.from_vec-whole.result ≡ [] = grind (arith, common_steps) in
    record { own_is = own; whole_is = whole }
