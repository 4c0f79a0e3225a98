use Rattle.std.proofs.Common.{◌≡◌, subst, ◌∙◌, arith}
use Rattle.std.specs.Prelude.{IfOk}
use mir.Syntax.{w64}
use mir.Val.{to_z, of_z}
use Rattle.std.proofs.lemmas.Int.{to_z-of_z}
use Rattle.channel_points.specs.Chunks.{settled}
use Rattle.channel_store.specs.Points.{outside, put_below}
use Rattle.channel_store.proofs.PointLemmas.{put-spliced}
use Rattle.channel_store.proofs.points.put_between.Goals as goal

pub splice-requires : goal.splice-requires
splice-requires c = omega (arith, c.count_to-end.ensures.within, c.count_below-start.ensures.within, c.min.ensures, c.saturating_sub.ensures)

pub returns : goal.returns
returns c =
    let xs = c.args.points.now.points in
    let more = c.args.more.now in
    let from : to_z w64 (of_z w64 c.args.from) ≡ c.args.from = to_z-of_z w64 c.args.from c.ranges.from in
    let to : to_z w64 (of_z w64 c.args.to) ≡ c.args.to = to_z-of_z w64 c.args.to c.ranges.to in
    let is = put-spliced (to_z w64 (of_z w64 c.args.from)) (to_z w64 (of_z w64 c.args.to)) more xs c.count_below-start.result c.count_to-end.result _ _ c.requires c.count_below-start.ensures c.count_to-end.ensures c.min.ensures c.saturating_sub.ensures in
    subst (λ l. IfOk c.splice.result (λ r. r ≡ settled l)) (is ∙ (λ j. put_below (to j) more (outside (from j) (to j) xs))) c.splice.ensures
