use Rattle.std.proofs.Common.{◌≡◌, [], arith}
use Rattle.std.proofs.lemmas.Grind.{common_steps}
use Rattle.std.specs.Vec.Iter.{into_iter_items}
use Rattle.client_parts.proofs.GroupLemmas.{points_done}
use Rattle.client_parts.proofs.grouping.grouped.Goals as goal

pub returns-clause-points : goal.returns-clause-points
returns-clause-points c =
    let none : into_iter_items c.loop-point.point-iterator ≡ [] = grind (arith, common_steps) in
    λ q. points_done q (into_iter_items c.loop-point.point-iterator) _ _ none (c.loop-point.invariant.points q)
