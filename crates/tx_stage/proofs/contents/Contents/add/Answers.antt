use Rattle.std.proofs.Common.{◌≡◌, sym, subst, rules, w64, to_z, of_z}
use Rattle.std.specs.Prelude.{IfOk, OnOk, FitsSigned}
use Rattle.std.proofs.lemmas.Int.{to_z-of_z}
use Rattle.tx_stage.specs.declared.key.Key.{Key}
use Rattle.tx_stage.specs.declared.key.Key.TheVariants.{Object, Array}
use Rattle.tx_stage.specs.Overlay.{misfit}
use Rattle.tx_stage.specs.State.{state_now, Advances}
use Rattle.tx_stage.proofs.PlanLemmas.{space-fits, space-stays}
use Rattle.tx_stage.proofs.contents.Contents.add.Goals as goal

pub returns-in-Space-clause-code : goal.returns-in-Space-clause-code
returns-in-Space-clause-code c = space-fits c.args.self.now c.args.plan.now c.args.op.now.key _ c.args.op.now.what c.in-Space.is

pub returns-in-Space-clause-plan : goal.returns-in-Space-clause-plan
returns-in-Space-clause-plan c = space-stays c.args.self.now c.args.plan.now c.args.op.now.key _ c.args.op.now.what c.args.op.now.at c.in-Space.is

pub returns-in-Object-clause-code : goal.returns-in-Object-clause-code
returns-in-Object-clause-code c =
    subst (λ (k : Key). IfOk c.add_object.result (λ r. r ≡ misfit c.args.op.now.what (state_now c.args.self.now c.args.plan.now k))) (sym c.in-Object.is) c.add_object.ensures.code

pub returns-in-Object-clause-plan : goal.returns-in-Object-clause-plan
returns-in-Object-clause-plan c =
    let at = c.args.op.now.at in
    let fits : FitsSigned w64 at = search rules in
    let moment : to_z w64 (of_z w64 at) ≡ at = to_z-of_z w64 at fits in
    subst (λ (k : Key). OnOk c.add_object.result (Advances c.args.self.now c.args.plan.now c.add_object.new.plan k c.args.op.now.what at)) (sym c.in-Object.is)
    (subst (λ z. OnOk c.add_object.result (Advances c.args.self.now c.args.plan.now c.add_object.new.plan (Object c.in-Object.uri) c.args.op.now.what z)) moment c.add_object.ensures.plan)

pub returns-in-Array-clause-code : goal.returns-in-Array-clause-code
returns-in-Array-clause-code c =
    subst (λ (k : Key). IfOk c.add_array.result (λ r. r ≡ misfit c.args.op.now.what (state_now c.args.self.now c.args.plan.now k))) (sym c.in-Array.is) c.add_array.ensures.code

pub returns-in-Array-clause-plan : goal.returns-in-Array-clause-plan
returns-in-Array-clause-plan c =
    let at = c.args.op.now.at in
    let fits : FitsSigned w64 at = search rules in
    let moment : to_z w64 (of_z w64 at) ≡ at = to_z-of_z w64 at fits in
    subst (λ (k : Key). OnOk c.add_array.result (Advances c.args.self.now c.args.plan.now c.add_array.new.plan k c.args.op.now.what at)) (sym c.in-Array.is)
    (subst (λ z. OnOk c.add_array.result (Advances c.args.self.now c.args.plan.now c.add_array.new.plan (Array c.in-Array.key) c.args.op.now.what z)) moment c.add_array.ensures.plan)
