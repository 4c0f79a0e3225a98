use Rattle.std.proofs.Common.{[], ap, w64, ◌∙◌}
use Rattle.std.proofs.lemmas.Int.{to_z-of_z}
use Rattle.std.specs.BTreeMap.{get}
use Rattle.std.specs.Option.{unwrap_or}
use Rattle.std.specs.Ordering.{int_cmp}
use Rattle.client_parts.proofs.grouping.points_at.Goals as goal

pub returns-in_default-clause-points : goal.returns-in_default-clause-points
returns-in_default-clause-points c =
    c.none.ensures ∙ ap (λ o. unwrap_or o []) c.in_default.ensures.value ∙ ap (λ z. unwrap_or (get int_cmp c.args.held.now z) []) (to_z-of_z w64 c.args.channel c.ranges.channel)
