use Rattle.std.proofs.Common.{length}
use Rattle.array_store.proofs.shape.+volume.Given as goal

abbrev pub decreases-volume : goal.decreases-volume
decreases-volume l = length l.list.now
