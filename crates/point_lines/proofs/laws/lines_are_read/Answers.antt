use Rattle.point_lines.proofs.SpellLemmas.{lines_are_read, lines_stand}
use Rattle.point_lines.proofs.laws.lines_are_read.Goals as goal

pub returns-clause-points : goal.returns-clause-points
returns-clause-points c = lines_are_read

pub returns-clause-lines : goal.returns-clause-lines
returns-clause-lines c = lines_stand
