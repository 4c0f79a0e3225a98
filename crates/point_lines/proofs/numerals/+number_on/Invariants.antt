use Rattle.std.proofs.Common.{length}
use Rattle.point_lines.proofs.numerals.+number_on.Given as goal

abbrev pub decreases-number_on : goal.decreases-number_on
decreases-number_on l = length l.digits.now
