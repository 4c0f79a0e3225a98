use Rattle.std.proofs.Common.{◌≡◌, ◌++◌, List, ℕ, drop}
use Rattle.std.specs.Option.{option_map}
use Rattle.point_lines.specs.Spelling.{lines_of}
use Rattle.point_lines.proofs.spelling.lines_of.Given as goal

-- what was written, and what the points that are left give
abbrev pub invariant-loop-point : goal.invariant-loop-point
invariant-loop-point l = option_map (λ (text : List ℕ). l.lines.items ++ text) (lines_of l.kind (drop l.point-index l.points)) ≡ lines_of l.kind l.points
