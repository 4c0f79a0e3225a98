use Rattle.std.proofs.Common.{arith, subst, ◌≡◌, ◌∷◌, ◌+◌, [], drop}
use Rattle.std.proofs.lemmas.Grind.{common_steps}
use Rattle.store_machine.specs.Kept.{PlansOn}
use Rattle.store_machine.proofs.CommittingLemmas.{plans-all, plans-none, plans-step}
use Rattle.store_machine.proofs.draft.plan_ops.Goals as goal

pub loop-op-init : goal.loop-op-init
loop-op-init c = plans-none c.args.contents.now c.new-plan.result c.as_slice-op-items.result.now c.args.ops.now (c.new-plan.ensures c.args.contents.now) c.as_slice-op-items.ensures

pub loop-op-preserved : goal.loop-op-preserved
loop-op-preserved c =
    let t = c.args.contents.now in
    let items = c.as_slice-op-items.result.now in
    let n = c.loop-op.op-index in
    let o = c.op-item.result in
    let here : drop n items ≡ o ∷ drop (n + 1) items = grind (arith, common_steps) in
    plans-step t c.loop-op.plan c.plan.new.plan o (drop (n + 1) items) c.args.ops.now (subst (λ l. PlansOn t c.loop-op.plan l c.args.ops.now) here c.loop-op.invariant) c.in_ok-plan.ensures

pub returns : goal.returns
returns c = λ sofar h.
    let items = c.as_slice-op-items.result.now in
    let none : drop c.loop-op.op-index items ≡ [] = grind (arith, common_steps) in
    plans-all c.args.contents.now c.loop-op.plan (drop c.loop-op.op-index items) c.args.ops.now sofar c.loop-op.invariant none h
