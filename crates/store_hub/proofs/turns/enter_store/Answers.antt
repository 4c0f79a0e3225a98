use Rattle.std.proofs.Common.{◌≡◌, length, subst, arith}
use Rattle.store_machine.specs.Answers.{Kept}
use Rattle.store_hub.specs.Turns.{LetsIn}
use Rattle.store_hub.proofs.EnteredLemmas.{lets_in}
use Rattle.store_hub.proofs.turns.enter_store.Goals as goal

pub returns-clause-ok : goal.returns-clause-ok
returns-clause-ok c =
    let s : Kept = c.get_mut-inside.result.now in
    let lent : s ≡ c.args.store.now = c.get_mut-inside.ensures.value in
    let n = c.entries-number.result in
    let after = c.ask.new.self.journal in
    subst (λ (x : Kept). LetsIn x.config x.journal n) lent (lets_in s.config s.journal after _ n c.entries-number.ensures.legal c.entries-number.ensures.len c.in-Ok.ensures.journal (λ (same : length after ≡ n). omega arith))
