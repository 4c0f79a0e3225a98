use Rattle.std.proofs.Common.{◌≡◌, ◌++◌, ◌∷◌, [], ap, ◌∙◌, w64, to_z, of_z}
use Rattle.std.proofs.lemmas.Int.{to_z-of_z}
use Rattle.std.proofs.lemmas.Result.{on_ok_weaker}
use Rattle.array_store.specs.declared.op.ArrayOp.TheVariants as set
use Rattle.array_store.specs.declared.record.ArrayRecord.{ArrayRecord}
use Rattle.tx_stage.proofs.PlanLemmas.{sets-array}
use Rattle.tx_stage.proofs.plan.Plan.set_array.Goals as goal

pub returns : goal.returns
returns c =
    let old = c.args.self.now in
    let key = c.args.key.now in
    let at = c.args.at in
    let moment : to_z w64 (of_z w64 at) ≡ at = to_z-of_z w64 at c.ranges.at in
    let given : ArrayRecord = c.in_ok-array.array in
    let made : record given { written = to_z w64 (of_z w64 at) } ≡ record c.args.array.now { written = at } = (λ j. record (c.in_ok-array.ensures j) { written = moment j }) in
    on_ok_weaker c.push_array.result
    (λ added t. sets-array t old c.push_array.new.self key c.args.array.now at (ap (λ v. v.items) c.push_array.ensures.objects)
    (added ∙ ap (λ (r : ArrayRecord). old.arrays.items ++ set.SetArray key r ∷ []) (c.weigh.ensures ∙ made)))
    c.push_array.ensures.arrays
