use Rattle.std.proofs.Common.{length}
use Rattle.capture_text.specs.Feeding.{HasSaid}
use Rattle.capture_text.proofs.feeding.feed_all.Given as goal

abbrev pub invariant-loop-answer : goal.invariant-loop-answer
invariant-loop-answer l = HasSaid l.fn.sender l.bytes l.left l.reader l.answer

abbrev pub decreases-loop-answer : goal.decreases-loop-answer
decreases-loop-answer l = length l.left
