use Rattle.std.proofs.Common.{◌≡◌, ◌<◌, ◌≤◌, ◌-◌, ◌++◌, ◌∷◌, [], length, sym, ap, ◌∙◌, subst, arith}
use Rattle.std.specs.List.{AllByRecursion}
use Rattle.std.specs.Vec.{vec_capacity, vec_len}
use Rattle.std.proofs.lemmas.Grind.{common_steps}
use Rattle.entry_index.specs.declared.chains.Step.{Step}
use Rattle.entry_index.specs.Chains.{chain}
use Rattle.entry_index.specs.Steps.{Begins, IsChained}
use Rattle.entry_index.proofs.ChainLemmas.{length-chains, chained-push}
use Rattle.entry_index.proofs.chains.Chains.push.Goals as goal

pub new_jump-jump-requires-clause-known : goal.new_jump-jump-requires-clause-known
new_jump-jump-requires-clause-known c =
    let same : length c.args.self.now.chains ≡ length c.as_slice.result.now = ap (λ v. length v.chains) (sym c.self.view_is) ∙ length-chains c.self.inside.steps.items ∙ ap length (sym c.as_slice.ensures.value) in
    subst (λ l. c.args.before ≤ l) same c.requires.known

pub invariant_of-self : goal.invariant_of-self
invariant_of-self c =
    let steps = c.self.inside.steps in
    let jump = c.new_jump-jump.result in
    let step : Step = record { place = c.args.place; before = c.args.before; jump = jump } in
    let room : 0 < vec_capacity steps - vec_len steps = subst (λ v. 0 < v.spare) (sym c.self.view_is) c.requires.room in
    let pushed : c.push.new.self.items ≡ steps.items ++ step ∷ [] = grind (arith, common_steps) in
    let known : c.args.before ≤ length steps.items = subst (λ l. c.args.before ≤ l) (ap (λ v. length v.chains) (sym c.self.view_is) ∙ length-chains steps.items) c.requires.known in
    let begins : Begins steps.items jump.to c.args.before = subst (λ l. Begins l jump.to c.args.before) c.as_slice.ensures.value c.new_jump-jump.ensures in
    let rises = subst (λ v. AllByRecursion (λ p. p ≤ c.args.place) (chain v.chains c.args.before)) (sym c.self.view_is) c.requires.rises in
    subst IsChained (sym pushed) (chained-push steps.items step c.self.invariant known rises begins)

pub returns-clause-number : goal.returns-clause-number
returns-clause-number c =
    let held : c.len.result ≡ length c.push.new.self.items = grind (arith, common_steps) in
    held ∙ sym (length-chains c.push.new.self.items)
