use Rattle.std.proofs.Common.{◌≡◌, ◌++◌, [], take, drop, ap, subst, ◌∙◌}
use Rattle.std.specs.Prelude.{IfOk}
use Rattle.channel_points.specs.Blocks.{joined}
use Rattle.channel_points.specs.Chunks.{settled}
use Rattle.channel_points.proofs.chunks.Chunks.front.Goals as goal

pub returns : goal.returns
returns c =
    let xs = c.args.self.now.points in
    let n = c.args.count in
    let first : joined c.add_to.new.blocks.items [] ≡ take n xs = c.in_ok-add_to.ensures.points ∙ ap (λ l. joined l [] ++ take n (drop 0 xs)) c.new-blocks.ensures.items in
    subst (λ l. IfOk c.of.result (λ r. r ≡ settled l)) first c.of.ensures
