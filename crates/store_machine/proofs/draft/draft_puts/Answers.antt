use Rattle.std.proofs.Common.{arith, rules, ◌≡◌, ◌∷◌, ◌++◌, ◌∙◌, [], map, pos, subst, w64, to_z, of_z}
use Rattle.std.proofs.lemmas.Grind.{common_steps}
use Rattle.std.proofs.lemmas.Int.{to_z-of_z}
use Rattle.std.specs.Map.{values_of}
use Rattle.std.specs.Vec.Iter.{into_iter_items}
use Rattle.store_machine.specs.History.{set_space}
use Rattle.store_machine.specs.Kept.{Plans}
use Rattle.store_machine.proofs.JudgingLemmas.{accepted-moment, drafting-first, drafting-step, items-done, verdicts-done, verdicts-moment}
use Rattle.store_machine.proofs.draft.draft_puts.Goals as goal

pub loop-name-init : goal.loop-name-init
loop-name-init c = λ t sofar h.
    let whole : into_iter_items c.into_iter-name-iterator.result ≡ c.args.items.items = grind (arith, common_steps) in
    drafting-first _ t sofar _ _ _ _ _ whole c.new-draft.ensures.verdicts c.new-draft.ensures.accepted (c.new-draft.ensures.plan t sofar h)

pub loop-name-preserved : goal.loop-name-preserved
loop-name-preserved c = λ t sofar h.
    let step : into_iter_items c.loop-name.name-iterator ≡ (c.in-Some.name, c.in-Some.put) ∷ into_iter_items c.next.new.self = search rules in
    let before = rw step at (c.loop-name.invariant t sofar h) in
    drafting-step _ t sofar _ _ _ _ _ _ _ _ _ _ before (c.in_ok-take_put.ensures t _ before.plan)

pub returns-clause-verdicts : goal.returns-clause-verdicts
returns-clause-verdicts c = λ t sofar h.
    let none : into_iter_items c.loop-name.name-iterator ≡ [] = grind (arith, common_steps) in
    verdicts-done _ t sofar _ _ _ _ _ none (c.loop-name.invariant t sofar h) ∙ verdicts-moment _ (pos 0) sofar sofar c.args.items.items

pub returns-clause-accepted : goal.returns-clause-accepted
returns-clause-accepted c = λ t sofar h.
    let none : into_iter_items c.loop-name.name-iterator ≡ [] = grind (arith, common_steps) in
    items-done _ t sofar _ _ _ _ _ none (c.loop-name.invariant t sofar h) ∙ accepted-moment _ (pos 0) sofar sofar (values_of c.args.items.items)

pub returns-clause-plan : goal.returns-clause-plan
returns-clause-plan c = λ t sofar h.
    let moment : to_z w64 (of_z w64 c.args.at) ≡ c.args.at = to_z-of_z w64 c.args.at c.ranges.at in
    subst (λ a. Plans t c.loop-name.draft.plan (sofar ++ map (set_space a) c.loop-name.draft.accepted.items)) moment (c.loop-name.invariant t sofar h).plan
