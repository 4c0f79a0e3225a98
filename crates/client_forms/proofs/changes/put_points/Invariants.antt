use Rattle.std.proofs.Common.{◌≡◌, ◌++◌, drop}
use Rattle.client_forms.specs.Texts.{marked}
use Rattle.client_forms.proofs.changes.put_points.Given as goal

-- what was written, and what the points that are left give
abbrev pub invariant-loop-point : goal.invariant-loop-point
invariant-loop-point l = l.into.items ++ marked l.word (drop l.point-index l.points) ≡ l.fn.into.items ++ marked l.word l.points
