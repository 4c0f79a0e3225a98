use Rattle.std.proofs.Common.{◌≡◌, subst, ◌∙◌}
use Rattle.std.specs.Prelude.{IfOk}
use mir.Syntax.{w64}
use mir.Val.{to_z, of_z}
use Rattle.std.proofs.lemmas.Int.{to_z-of_z}
use Rattle.channel_points.specs.Chunks.{settled}
use Rattle.channel_store.specs.Points.{up_to}
use Rattle.channel_store.proofs.points.cut.Goals as goal

pub returns : goal.returns
returns c =
    let xs = c.args.points.now.points in
    let end : to_z w64 (of_z w64 c.args.end) ≡ c.args.end = to_z-of_z w64 c.args.end c.ranges.end in
    subst (λ l. IfOk c.front.result (λ r. r ≡ settled l)) (c.count_to-count.ensures.front ∙ (λ j. up_to (end j) xs)) c.front.ensures
