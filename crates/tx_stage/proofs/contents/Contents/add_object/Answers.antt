use Rattle.std.proofs.Common.{◌≡◌, refl, subst, w64, to_z, of_z}
use Rattle.std.proofs.lemmas.Int.{to_z-of_z}
use Rattle.tx_stage.specs.declared.key.Key.TheVariants.{Object}
use Rattle.tx_stage.specs.State.{Advances}
use Rattle.tx_stage.proofs.PlanLemmas.{object-fits}
use Rattle.tx_stage.proofs.contents.Contents.add_object.Goals as goal

pub returns-clause-code : goal.returns-clause-code
returns-clause-code c = object-fits c.args.self.now c.args.plan.now (Object c.args.uri.now) c.args.uri.now c.args.what.now refl

pub returns-clause-plan : goal.returns-clause-plan
returns-clause-plan c =
    let moment : to_z w64 (of_z w64 c.args.at) ≡ c.args.at = to_z-of_z w64 c.args.at c.ranges.at in
    subst (λ at. Advances c.args.self.now c.args.plan.now c.add_object.new.self (Object c.args.uri.now) c.args.what.now at) moment (c.in_ok-add_object.ensures c.args.self.now)
