use Rattle.std.proofs.Common.{◌≡◌, ◌-◌, drop, subst, sym}
use Rattle.std.specs.Prelude.{int_lt}
use mir.Syntax.{w64}
use mir.Val.{to_z, of_z}
use Rattle.std.proofs.lemmas.Int.{to_z-of_z}
use Rattle.channel_points.proofs.ReadLemmas.{split-drop}
use Rattle.channel_store.specs.Points.{at_most}
use Rattle.channel_store.specs.Splits.{IsSplit}
use Rattle.channel_store.proofs.points.place_inside.Goals as goal

pub returns-clause-inside : goal.returns-clause-inside
returns-clause-inside c =
    let xs = c.args.points.now.points in
    let s = c.count_below-start.result in
    let to : to_z w64 (of_z w64 c.args.to) ≡ c.args.to = to_z-of_z w64 c.args.to c.ranges.to in
    subst (λ n. IsSplit (λ x. at_most x.index c.args.to) (drop s xs) n) (sym c.saturating_sub.ensures)
    (subst (λ i. IsSplit (λ x. at_most x.index i) (drop s xs) (c.count_to-end.result - s)) to (split-drop _ xs c.count_to-end.result s c.count_to-end.ensures))

pub returns-clause-below : goal.returns-clause-below
returns-clause-below c =
    subst (λ i. IsSplit (λ x. int_lt x.index i) c.args.points.now.points c.count_below-start.result) (to_z-of_z w64 c.args.from c.ranges.from) c.count_below-start.ensures
