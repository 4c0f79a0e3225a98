use Rattle.std.proofs.Common.{◌≡◌, ◌++◌, drop}
use Rattle.channel_points.proofs.points.add_copies.Given as goal

abbrev pub invariant-loop-point : goal.invariant-loop-point
invariant-loop-point l = l.copies.items ++ drop l.point-index l.points ≡ l.fn.copies.items ++ l.points
