use Rattle.std.proofs.Common.{◌≡◌, ◌++◌, ◌∷◌, [], true, refl, sym, ap, ◌∙◌, w64, to_z, of_z}
use Rattle.std.proofs.lemmas.Int.{to_z-of_z}
use Rattle.etp_values.specs.SameUri.{same_uri}
use Rattle.object_store.specs.declared.op.ObjectOp.TheVariants as op
use Rattle.object_store.specs.declared.records.ObjectRecord.{ObjectRecord}
use Rattle.tx_stage.specs.declared.plan.Plan.{Plan}
use Rattle.tx_stage.proofs.PlanLemmas.{sets-object}
use Rattle.tx_stage.proofs.plan.Plan.set_object.Goals as goal

pub returns : goal.returns
returns c =
    let old = c.args.self.now in
    let at = c.args.at in
    let uri = c.args.uri.now in
    let moment : to_z w64 (of_z w64 at) ≡ at = to_z-of_z w64 at c.ranges.at in
    let new : Plan = record { objects = c.push.new.self; arrays = old.arrays } in
    let given : ObjectRecord = c.in_ok-object.object in
    let copied : record given { written = to_z w64 (of_z w64 at) } ≡ record c.args.object.now { written = at } = (λ j. record (c.in_ok-object.ensures j) { written = moment j }) in
    let made : c.in_ok-object-2.object ≡ record c.args.object.now { written = at } = c.in_ok-object-2.ensures ∙ copied in
    let suited : same_uri uri c.args.object.now.uri ≡ true = sym c.same.ensures.test ∙ c.if-not-same.false in
    λ t. sets-object t old new uri c.args.object.now at suited (c.in_ok-push.ensures.items ∙ ap (λ (r : ObjectRecord). old.objects.items ++ op.SetObject r ∷ []) made) refl
