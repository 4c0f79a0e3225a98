use Rattle.std.proofs.Common.{◌≡◌, ap, sym, subst, ◌∙◌}
use Rattle.std.specs.Prelude.{IfOk}
use Rattle.channel_points.specs.Chunks.{settled}
use Rattle.channel_store.specs.Points.{after}
use Rattle.channel_store.proofs.PointLemmas.{appended-is}
use Rattle.channel_store.proofs.points.apply.Goals as goal

pub returns-in-Append : goal.returns-in-Append
returns-in-Append c =
    let xs = c.args.points.now.points in
    let is = appended-is xs c.in-Append.more c.len.result c.len.ensures in
    subst (λ l. IfOk c.splice.result (λ r. r ≡ settled l)) (is ∙ sym (ap (after xs) c.in-Append.is)) c.splice.ensures
