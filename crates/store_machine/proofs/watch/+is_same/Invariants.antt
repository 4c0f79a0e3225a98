use Rattle.std.proofs.Common.{length}
use Rattle.store_machine.proofs.watch.+is_same.Given as goal

abbrev pub decreases-is_same : goal.decreases-is_same
decreases-is_same l = length l.ones.now
