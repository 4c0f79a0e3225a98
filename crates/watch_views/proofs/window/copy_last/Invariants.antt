use Rattle.std.proofs.Common.{◌≡◌, ◌++◌, drop}
use Rattle.watch_views.proofs.window.copy_last.Given as goal

abbrev pub invariant-loop-place : goal.invariant-loop-place
invariant-loop-place l = l.copies.items ++ drop l.place l.points ≡ drop l.first l.points
