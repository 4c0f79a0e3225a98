use Rattle.std.proofs.Common.{sym, ap, subst, ◌≡◌, w64, to_z, of_z}
use Rattle.std.specs.Prelude.{OnOk}
use Rattle.std.proofs.lemmas.Int.{to_z-of_z}
use Rattle.tx_stage.specs.declared.contents.Contents.{Contents}
use Rattle.tx_stage.specs.declared.key.Key.TheVariants.{Object}
use Rattle.tx_stage.specs.declared.op.OpWhat.TheVariants.{SetObject, Gone}
use Rattle.tx_stage.specs.Ops.{suits}
use Rattle.tx_stage.specs.State.{Advances}
use Rattle.tx_stage.proofs.PlanLemmas.{object-stays}
use Rattle.tx_stage.proofs.plan.Plan.add_object.Goals as goal

pub returns-in-SetObject : goal.returns-in-SetObject
returns-in-SetObject c =
    let old = c.args.self.now in
    let new = c.set_object.new.self in
    let uri = c.args.uri.now in
    let moment : to_z w64 (of_z w64 c.args.at) ≡ c.args.at = to_z-of_z w64 c.args.at c.ranges.at in
    subst (λ what. OnOk c.set_object.result ((t : Contents) → Advances t old new (Object uri) what c.args.at)) (sym c.in-SetObject.is)
    (subst (λ at. OnOk c.set_object.result ((t : Contents) → Advances t old new (Object uri) (SetObject c.in-SetObject.object) at)) moment c.set_object.ensures)

pub returns-in-SetArray : goal.returns-in-SetArray
returns-in-SetArray c = λ t. object-stays t c.args.self.now c.args.uri.now c.args.what.now c.args.at (ap (suits (Object c.args.uri.now)) c.in-SetArray.is)

pub returns-in-Patch : goal.returns-in-Patch
returns-in-Patch c = λ t. object-stays t c.args.self.now c.args.uri.now c.args.what.now c.args.at (ap (suits (Object c.args.uri.now)) c.in-Patch.is)

pub returns-in-Gone : goal.returns-in-Gone
returns-in-Gone c =
    let old = c.args.self.now in
    let new = c.remove_object.new.self in
    let uri = c.args.uri.now in
    let moment : to_z w64 (of_z w64 c.args.at) ≡ c.args.at = to_z-of_z w64 c.args.at c.ranges.at in
    subst (λ what. OnOk c.remove_object.result ((t : Contents) → Advances t old new (Object uri) what c.args.at)) (sym c.in-Gone.is)
    (subst (λ at. OnOk c.remove_object.result ((t : Contents) → Advances t old new (Object uri) Gone at)) moment c.remove_object.ensures)
