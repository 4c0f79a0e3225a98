use Rattle.std.proofs.Common.{◌≡◌, sym, ap, subst, w64, to_z, of_z}
use Rattle.std.specs.Prelude.{IfOk, OnOk}
use Rattle.std.proofs.lemmas.Int.{to_z-of_z}
use Rattle.tx_stage.specs.declared.key.Key.TheVariants.{Array}
use Rattle.tx_stage.specs.declared.op.OpWhat.{OpWhat}
use Rattle.tx_stage.specs.declared.op.OpWhat.TheVariants.{SetArray, Patch}
use Rattle.tx_stage.specs.Ops.{suits}
use Rattle.tx_stage.specs.Overlay.{misfit}
use Rattle.tx_stage.specs.State.{state_now, Advances}
use Rattle.tx_stage.proofs.PlanLemmas.{array-stays}
use Rattle.tx_stage.proofs.contents.Contents.add_array.Goals as goal

pub returns-in-SetObject-clause-code : goal.returns-in-SetObject-clause-code
returns-in-SetObject-clause-code c = ap (λ (w : OpWhat). misfit w (state_now c.args.self.now c.args.plan.now (Array c.args.key.now))) (sym c.in-SetObject.is)

pub returns-in-SetObject-clause-plan : goal.returns-in-SetObject-clause-plan
returns-in-SetObject-clause-plan c = array-stays c.args.self.now c.args.plan.now c.args.key.now c.args.what.now c.args.at (ap (suits (Array c.args.key.now)) c.in-SetObject.is)

pub returns-in-SetArray-clause-code : goal.returns-in-SetArray-clause-code
returns-in-SetArray-clause-code c =
    subst (λ (w : OpWhat). IfOk c.add_set.result (λ r. r ≡ misfit w (state_now c.args.self.now c.args.plan.now (Array c.args.key.now)))) (sym c.in-SetArray.is) c.add_set.ensures.code

pub returns-in-SetArray-clause-plan : goal.returns-in-SetArray-clause-plan
returns-in-SetArray-clause-plan c =
    let moment : to_z w64 (of_z w64 c.args.at) ≡ c.args.at = to_z-of_z w64 c.args.at c.ranges.at in
    subst (λ (w : OpWhat). OnOk c.add_set.result (Advances c.args.self.now c.args.plan.now c.add_set.new.plan (Array c.args.key.now) w c.args.at)) (sym c.in-SetArray.is)
    (subst (λ at. OnOk c.add_set.result (Advances c.args.self.now c.args.plan.now c.add_set.new.plan (Array c.args.key.now) (SetArray c.in-SetArray.array) at)) moment c.add_set.ensures.plan)

pub returns-in-Patch-clause-code : goal.returns-in-Patch-clause-code
returns-in-Patch-clause-code c =
    subst (λ (w : OpWhat). IfOk c.add_patch.result (λ r. r ≡ misfit w (state_now c.args.self.now c.args.plan.now (Array c.args.key.now)))) (sym c.in-Patch.is) c.add_patch.ensures.code

pub returns-in-Patch-clause-plan : goal.returns-in-Patch-clause-plan
returns-in-Patch-clause-plan c =
    let moment : to_z w64 (of_z w64 c.args.at) ≡ c.args.at = to_z-of_z w64 c.args.at c.ranges.at in
    subst (λ (w : OpWhat). OnOk c.add_patch.result (Advances c.args.self.now c.args.plan.now c.add_patch.new.plan (Array c.args.key.now) w c.args.at)) (sym c.in-Patch.is)
    (subst (λ at. OnOk c.add_patch.result (Advances c.args.self.now c.args.plan.now c.add_patch.new.plan (Array c.args.key.now) (Patch c.in-Patch.starts c.in-Patch.counts c.in-Patch.values) at)) moment c.add_patch.ensures.plan)

pub returns-in-Gone-clause-code : goal.returns-in-Gone-clause-code
returns-in-Gone-clause-code c = ap (λ (w : OpWhat). misfit w (state_now c.args.self.now c.args.plan.now (Array c.args.key.now))) (sym c.in-Gone.is)

pub returns-in-Gone-clause-plan : goal.returns-in-Gone-clause-plan
returns-in-Gone-clause-plan c = array-stays c.args.self.now c.args.plan.now c.args.key.now c.args.what.now c.args.at (ap (suits (Array c.args.key.now)) c.in-Gone.is)
