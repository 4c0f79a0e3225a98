use Rattle.std.proofs.Common.{◌++◌, ◌∷◌, [], ap, ◌∙◌}
use Rattle.array_store.specs.declared.op.ArrayOp.TheVariants as set
use Rattle.object_store.specs.declared.op.ObjectOp.TheVariants as op
use Rattle.tx_stage.specs.declared.plan.Plan.{Plan}
use Rattle.tx_stage.proofs.PlanLemmas.{drops-space}
use Rattle.tx_stage.proofs.plan.Plan.drop_space.Goals as goal

pub returns : goal.returns
returns c =
    let old = c.args.self.now in
    let new : Plan = record { objects = c.push-2.new.self; arrays = c.push.new.self } in
    λ t. drops-space t old new c.args.path.now
    (c.in_ok-push-2.ensures.items ∙ ap (λ p. old.objects.items ++ op.DropSpace p ∷ []) c.in_ok-path.ensures)
    (c.in_ok-push.ensures.items ∙ ap (λ p. old.arrays.items ++ set.DropArraysIn p ∷ []) c.in_ok-from.ensures)
