use Rattle.std.proofs.Common.{length}
use Rattle.request_scope.proofs.finding.+refused_look.Given as goal

abbrev pub decreases-refused_look : goal.decreases-refused_look
decreases-refused_look l = length l.found.now
