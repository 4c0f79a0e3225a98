use Rattle.std.proofs.Common.{subst}
use Rattle.std.specs.Prelude.{IfSome}
use Rattle.std.specs.Option.{option_copied}
use Rattle.array_store.specs.Table.{array_in}
use Rattle.tx_stage.specs.Patching.{IsUntouched}
use Rattle.tx_stage.proofs.contents.Contents.patch_unset.Goals as goal

pub patch_stored-requires : goal.patch_stored-requires
patch_stored-requires c =
    let key = c.args.key.now in
    subst (λ o. IfSome (option_copied o) (λ r. IsUntouched key (array_in c.args.self.now.arrays key) c.args.plan.now.arrays.items r)) c.in-Some.is c.untouched_numbers.ensures
