use Rattle.std.proofs.Common.{◌≡◌, ℤ, IfOk, w64, of_z, to_z, sym, subst}
use Rattle.std.proofs.lemmas.Int.{to_z-of_z}
use Rattle.store_machine.specs.declared.call.Answer.{Answer}
use Rattle.store_machine.specs.Answers.{Kept, answered}
use Rattle.store_machine.specs.Laws.{IsCallAt}
use Rattle.store_hub.specs.Turns.{Adds}
use Rattle.store_hub.proofs.AskedLemmas.{asked_as}
use Rattle.store_hub.proofs.turns.ask_as.Goals as goal

pub returns-clause-ok : goal.returns-clause-ok
returns-clause-ok c =
    let s : Kept = c.get_mut.result.now in
    let lent : s ≡ c.args.store.now = c.get_mut.ensures.value in
    let n = c.args.number in
    let after = c.ask.new.self.journal in
    let asks : IsCallAt s.journal c.args.call = subst (λ (x : Kept). IsCallAt x.journal c.args.call) (sym lent) c.requires.call in
    subst (λ (x : Kept). IfOk c.ask.result (λ (a : Answer). (a ≡ answered x.config x.journal c.args.call) × Adds x.config x.journal n c.args.nth c.args.at c.args.call after)) lent
    (subst (λ (z : ℤ). IfOk c.ask.result (λ (a : Answer). (a ≡ answered s.config s.journal c.args.call) × Adds s.config s.journal n c.args.nth z c.args.call after)) (to_z-of_z w64 c.args.at c.ranges.at)
    (asked_as s.config s.journal after n c.args.nth (to_z w64 (of_z w64 c.args.at)) c.args.call c.ask.result asks c.ask.ensures.answer c.ask.ensures.journal))
