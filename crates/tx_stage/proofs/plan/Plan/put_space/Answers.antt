use Rattle.std.proofs.Common.{◌≡◌, ◌++◌, ◌∷◌, [], refl, ap, ◌∙◌, w64, to_z, of_z}
use Rattle.std.proofs.lemmas.Int.{to_z-of_z}
use Rattle.object_store.specs.declared.op.ObjectOp.TheVariants as op
use Rattle.object_store.specs.declared.records.SpaceRecord.{SpaceRecord}
use Rattle.tx_stage.specs.declared.plan.Plan.{Plan}
use Rattle.tx_stage.proofs.PlanLemmas.{puts-space}
use Rattle.tx_stage.proofs.plan.Plan.put_space.Goals as goal

pub returns : goal.returns
returns c =
    let old = c.args.self.now in
    let at = c.args.at in
    let moment : to_z w64 (of_z w64 at) ≡ at = to_z-of_z w64 at c.ranges.at in
    let new : Plan = record { objects = c.push.new.self; arrays = old.arrays } in
    let space : SpaceRecord = record { path = c.args.path.now; written = at; created = at; custom = c.args.custom.now } in
    let path : c.in_ok-new.field-0 ≡ c.args.path.now = c.in_ok-new.ensures ∙ c.in_ok-copy.ensures in
    let made : c.in_ok-space.space ≡ space = c.in_ok-space.ensures ∙ (λ j. record { path = path j; written = moment j; created = moment j; custom = c.in_ok-copy-2.ensures j }) in
    λ t. puts-space t old new c.args.path.now c.args.custom.now at at (c.in_ok-push.ensures.items ∙ ap (λ (r : SpaceRecord). old.objects.items ++ op.SetSpace r ∷ []) made) refl
