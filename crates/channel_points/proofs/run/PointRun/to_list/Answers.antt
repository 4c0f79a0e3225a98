use Rattle.std.proofs.Common.{◌≡◌, [], take, ap, subst, ◌∙◌, arith}
use Rattle.std.specs.Prelude.{IfOk}
use Rattle.std.proofs.lemmas.List.{take_all}
use Rattle.channel_points.specs.Blocks.{joined}
use Rattle.channel_points.specs.Runs.{points_in_run}
use Rattle.channel_points.proofs.run.PointRun.to_list.Goals as goal

pub returns : goal.returns
returns c =
    let r = c.self.inside in
    let all : take r.count (joined c.as_slice.result.now []) ≡ c.args.self.now = ap (λ l. take r.count (joined l [])) c.as_slice.ensures.value ∙ take_all r.count (points_in_run r) (omega (arith, c.self.invariant.counted)) ∙ c.self.view_is in
    subst (λ l. IfOk c.copy_first.result (λ x. x ≡ l)) all c.copy_first.ensures
