use Rattle.std.proofs.Common.{◌≡◌, take, drop, sym, ap, subst, ◌∙◌}
use Rattle.std.specs.Prelude.{IfOk}
use Rattle.channel_points.specs.Handles.{points_in, IsForm}
use Rattle.channel_points.proofs.PartLemmas.{part-within}
use Rattle.channel_points.proofs.points.Points.part.Goals as goal

pub part_of-requires-clause-block : goal.part_of-requires-clause-block
part_of-requires-clause-block c = (subst IsForm c.in-Run.is c.self.invariant).1

pub part_of-requires-clause-within : goal.part_of-requires-clause-within
part_of-requires-clause-within c =
    part-within c.in-Run.block c.in-Run.first c.in-Run.end c.args.start c.args.count c.args.self.now (subst IsForm c.in-Run.is c.self.invariant).0 (subst IsForm c.in-Run.is c.self.invariant).1 (sym (ap points_in c.in-Run.is) ∙ c.self.view_is) c.requires

pub returns-in-Run : goal.returns-in-Run
returns-in-Run c =
    let same = sym (ap points_in c.in-Run.is) ∙ c.self.view_is in
    subst (λ l. IfOk c.part_of.result (λ r. r ≡ take c.args.count (drop c.args.start l))) same c.part_of.ensures
