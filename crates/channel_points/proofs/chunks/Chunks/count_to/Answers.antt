use Rattle.std.proofs.Common.{◌≡◌, not, length, ap, sym, subst, ◌∙◌, arith, w64, to_z, of_z}
use Rattle.std.specs.Prelude.{int_lt}
use Rattle.std.proofs.lemmas.Int.{to_z-of_z}
use Rattle.channel_points.specs.Blocks.{joined}
use Rattle.channel_points.specs.Order.{Rises}
use Rattle.channel_points.specs.Splits.{IsSplit}
use Rattle.channel_points.proofs.chunks.Chunks.count_to.Goals as goal

pub split-requires-clause-rises : goal.split-requires-clause-rises
split-requires-clause-rises c =
    let whole : joined c.as_slice.result.now c.as_slice-2.result.now ≡ c.args.self.now.points = (λ j. joined (c.as_slice.ensures.value j) (c.as_slice-2.ensures.value j)) ∙ ap (λ h. h.points) c.self.view_is in
    subst Rises (sym whole) c.requires

pub split-requires-clause-bounded : goal.split-requires-clause-bounded
split-requires-clause-bounded c =
    let whole : length (joined c.as_slice.result.now c.as_slice-2.result.now) ≡ length (joined c.self.inside.sealed.items c.self.inside.tail.items) = (λ j. length (joined (c.as_slice.ensures.value j) (c.as_slice-2.ensures.value j))) in
    omega (arith, whole, c.self.invariant.counted.shown, c.self.invariant.counted.bounded)

pub returns : goal.returns
returns c =
    let same : to_z w64 (of_z w64 c.args.index) ≡ c.args.index = to_z-of_z w64 c.args.index c.ranges.index in
    let whole : joined c.as_slice.result.now c.as_slice-2.result.now ≡ c.args.self.now.points = (λ j. joined (c.as_slice.ensures.value j) (c.as_slice-2.ensures.value j)) ∙ ap (λ h. h.points) c.self.view_is in
    subst (λ X. X) (λ j. IsSplit (λ x. not (int_lt (same j) x.index)) (whole j) c.split.result) c.split.ensures
