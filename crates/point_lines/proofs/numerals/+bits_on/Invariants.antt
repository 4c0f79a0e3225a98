use Rattle.std.proofs.Common.{length}
use Rattle.point_lines.proofs.numerals.+bits_on.Given as goal

abbrev pub decreases-bits_on : goal.decreases-bits_on
decreases-bits_on l = length l.digits.now
