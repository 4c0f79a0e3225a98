use Rattle.std.proofs.Common.{◌≡◌, sym, subst, arith, w64, to_z, of_z}
use Rattle.std.specs.List.{AllByRecursion}
use Rattle.std.proofs.lemmas.Grind.{common_steps}
use Rattle.std.proofs.lemmas.Int.{to_z-of_z}
use Rattle.etp_values.specs.declared.point.ChannelPoint.{ChannelPoint}
use Rattle.channel_store.proofs.given.gather.Goals as goal

pub share-requires-clause-one : goal.share-requires-clause-one
share-requires-clause-one c =
    let same : to_z w64 (of_z w64 c.in-Some.channel) ≡ c.in-Some.channel = grind (arith, common_steps, to_z-of_z) in
    subst (λ n. AllByRecursion (λ (i : ChannelPoint). i.channel ≡ n) c.args.items.now) (sym same) c.in-Some.ensures

pub share-requires-clause-told : goal.share-requires-clause-told
share-requires-clause-told c = c.requires (to_z w64 (of_z w64 c.in-Some.channel))
