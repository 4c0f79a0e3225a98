use Rattle.std.proofs.Common.{length}
use Rattle.command_words.proofs.counts.+number_on.Given as goal

abbrev pub decreases-number_on : goal.decreases-number_on
decreases-number_on l = length l.digits.now
