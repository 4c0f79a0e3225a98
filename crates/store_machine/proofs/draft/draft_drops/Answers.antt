use Rattle.std.proofs.Common.{arith, rules, ◌≡◌, ◌∷◌, []}
use Rattle.std.proofs.lemmas.Grind.{common_steps}
use Rattle.std.specs.Vec.Iter.{into_iter_items}
use Rattle.store_machine.proofs.JudgingLemmas.{drafting-first, drafting-step, items-done, verdicts-done}
use Rattle.store_machine.proofs.draft.draft_drops.Goals as goal

pub loop-name-init : goal.loop-name-init
loop-name-init c = λ sofar h.
    let whole : into_iter_items c.into_iter-name-iterator.result ≡ c.args.items.items = grind (arith, common_steps) in
    drafting-first _ _ sofar _ _ _ _ _ whole c.new-draft.ensures.verdicts c.new-draft.ensures.accepted (c.new-draft.ensures.plan _ sofar h)

pub loop-name-preserved : goal.loop-name-preserved
loop-name-preserved c = λ sofar h.
    let step : into_iter_items c.loop-name.name-iterator ≡ (c.in-Some.name, c.in-Some.path) ∷ into_iter_items c.next.new.self = search rules in
    let before = rw step at (c.loop-name.invariant sofar h) in
    drafting-step _ _ sofar _ _ _ _ _ _ _ _ _ _ before (c.in_ok-take_drop.ensures _ before.plan)

pub returns-clause-verdicts : goal.returns-clause-verdicts
returns-clause-verdicts c = λ sofar h.
    let none : into_iter_items c.loop-name.name-iterator ≡ [] = grind (arith, common_steps) in
    verdicts-done _ _ sofar _ _ _ _ _ none (c.loop-name.invariant sofar h)

pub returns-clause-accepted : goal.returns-clause-accepted
returns-clause-accepted c = λ sofar h.
    let none : into_iter_items c.loop-name.name-iterator ≡ [] = grind (arith, common_steps) in
    items-done _ _ sofar _ _ _ _ _ none (c.loop-name.invariant sofar h)

pub returns-clause-plan : goal.returns-clause-plan
returns-clause-plan c = λ sofar h. (c.loop-name.invariant sofar h).plan
