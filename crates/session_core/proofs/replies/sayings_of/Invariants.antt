-- What is made so far, and what is left, make the whole.
use Rattle.std.proofs.Common.{◌≡◌, ◌++◌}
use Rattle.std.specs.Vec.Iter.{into_iter_items}
use Rattle.session_core.specs.Replies.{sayings_of}
use Rattle.session_core.proofs.replies.sayings_of.Given as goal

abbrev pub invariant-loop-sending : goal.invariant-loop-sending
invariant-loop-sending g l = l.sayings.items ++ sayings_of g.M.IntoMessage.wrapped (into_iter_items l.sending-iterator) ≡ sayings_of g.M.IntoMessage.wrapped l.fn.sendings
