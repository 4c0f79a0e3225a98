use Rattle.std.proofs.Common.{length}
use Rattle.etp_values.proofs.uri.reading.+agreeing.Given as goal

abbrev pub decreases-agreeing : goal.decreases-agreeing
decreases-agreeing l = length l.a.now
