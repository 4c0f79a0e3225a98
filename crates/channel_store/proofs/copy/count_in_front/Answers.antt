use Rattle.std.proofs.Common.{◌≡◌, true, false, length, take, arith, subst, rules, w64, to_z, of_z}
use Rattle.std.specs.List.{AllByRecursion}
use Rattle.std.proofs.lemmas.Int.{to_z-of_z}
use Rattle.channel_store.specs.Copies.{IsFront}
use Rattle.channel_store.specs.Points.{at_most}
use Rattle.channel_store.proofs.FrontLemmas.{front-all, front-at}
use Rattle.channel_store.proofs.copy.count_in_front.Goals as goal

pub returns-then-points-i-clause-put : goal.returns-then-points-i-clause-put
returns-then-points-i-clause-put c =
    let xs = c.args.points.now in
    let same : to_z w64 (of_z w64 c.args.to) ≡ c.args.to = to_z-of_z w64 c.args.to c.ranges.to in
    let all : AllByRecursion (λ x. at_most x.index c.args.to ≡ true) (take c.loop-i.i xs) = subst (λ t. AllByRecursion (λ x. at_most x.index t ≡ true) (take c.loop-i.i xs)) same c.loop-i.invariant in
    let above : at_most c.index-points-i.result.index c.args.to ≡ false = search rules in
    front-at c.args.to xs c.loop-i.i c.index-points-i.result (omega arith) all (subst (λ y. at_most y.index c.args.to ≡ false) c.index-points-i.is above)

pub returns-clause-put : goal.returns-clause-put
returns-clause-put c =
    let xs = c.args.points.now in
    let same : to_z w64 (of_z w64 c.args.to) ≡ c.args.to = to_z-of_z w64 c.args.to c.ranges.to in
    let end : c.loop-i.i ≡ length xs = omega arith in
    let all : AllByRecursion (λ x. at_most x.index c.args.to ≡ true) (take c.loop-i.i xs) = subst (λ t. AllByRecursion (λ x. at_most x.index t ≡ true) (take c.loop-i.i xs)) same c.loop-i.invariant in
    subst (λ n. IsFront c.args.to n xs) end (front-all c.args.to xs c.loop-i.i (omega arith) all)
