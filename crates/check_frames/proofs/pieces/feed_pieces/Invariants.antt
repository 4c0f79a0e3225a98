use Rattle.std.proofs.Common.{length}
use Rattle.check_frames.proofs.pieces.feed_pieces.Given as goal

abbrev pub decreases-loop-left : goal.decreases-loop-left
decreases-loop-left l = length l.left
