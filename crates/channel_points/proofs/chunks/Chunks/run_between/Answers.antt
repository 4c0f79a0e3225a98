use Rattle.std.proofs.Common.{◌≡◌, ◌++◌, [], take, drop, ap, subst, ◌∙◌}
use Rattle.std.specs.Prelude.{IfOk}
use Rattle.channel_points.specs.Blocks.{joined}
use Rattle.channel_points.proofs.chunks.Chunks.run_between.Goals as goal

pub returns : goal.returns
returns c =
    let xs = c.args.self.now.points in
    let s = c.args.start in
    let n = c.args.count in
    let all : joined c.add_to.new.blocks.items [] ≡ take n (drop s xs) = c.in_ok-add_to.ensures.points ∙ ap (λ l. joined l [] ++ take n (drop s xs)) c.new-parts.ensures.items in
    subst (λ l. IfOk c.of.result (λ r. r ≡ l)) all c.of.ensures
