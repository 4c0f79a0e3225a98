use Rattle.std.proofs.Common.{◌≡◌, subst, w64, to_z, of_z}
use Rattle.std.proofs.lemmas.Int.{to_z-of_z}
use Rattle.tx_stage.specs.declared.key.Key.TheVariants.{Array}
use Rattle.tx_stage.specs.declared.op.OpWhat.TheVariants.{SetArray}
use Rattle.tx_stage.specs.State.{Advances}
use Rattle.tx_stage.proofs.contents.Contents.add_set.Goals as goal

pub returns-clause-plan : goal.returns-clause-plan
returns-clause-plan c =
    let moment : to_z w64 (of_z w64 c.args.at) ≡ c.args.at = to_z-of_z w64 c.args.at c.ranges.at in
    subst (λ at. Advances c.args.self.now c.args.plan.now c.set_array.new.self (Array c.args.key.now) (SetArray c.args.array.now) at) moment (c.in_ok-set_array.ensures c.args.self.now)
