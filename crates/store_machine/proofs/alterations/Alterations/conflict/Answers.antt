use Rattle.std.proofs.Common.{arith, ap, sym, ◌∙◌, ◌≡◌, ◌∷◌, ◌+◌, [], drop}
use Rattle.std.proofs.lemmas.Grind.{common_steps}
use Rattle.store_machine.specs.Clash.{conflict, least}
use Rattle.store_machine.proofs.MarkedLemmas.{conflict-step, least-none}
use Rattle.store_machine.proofs.alterations.Alterations.conflict.Goals as goal

pub loop-touch-init : goal.loop-touch-init
loop-touch-init c = λ history m. ap (λ l. conflict l history) c.as_slice-touch-items.ensures

pub loop-touch-preserved : goal.loop-touch-preserved
loop-touch-preserved c = λ history m.
    let items = c.as_slice-touch-items.result.now in
    let n = c.loop-touch.touch-index in
    let first = c.loop-touch.first in
    let t = c.touch-item.result in
    let here : drop n items ≡ t ∷ drop (n + 1) items = grind (arith, common_steps) in
    ap (λ o. least o (conflict (drop (n + 1) items) history)) (c.earlier-first.ensures ∙ ap (least first) (c.in_ok-clash.ensures history m))
    ∙ conflict-step first t (drop (n + 1) items) history ∙ ap (λ l. least first (conflict l history)) (sym here) ∙ c.loop-touch.invariant history m

pub returns : goal.returns
returns c = λ history m.
    let items = c.as_slice-touch-items.result.now in
    let first = c.loop-touch.first in
    let none : drop c.loop-touch.touch-index items ≡ [] = grind (arith, common_steps) in
    sym (least-none first) ∙ ap (λ l. least first (conflict l history)) (sym none) ∙ c.loop-touch.invariant history m
