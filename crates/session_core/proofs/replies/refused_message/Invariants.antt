-- What is written so far, and what is left, make the whole.
use Rattle.std.proofs.Common.{◌≡◌, ◌++◌, map}
use Rattle.std.specs.Vec.Iter.{into_iter_items}
use Rattle.session_core.specs.Replies.{error_info}
use Rattle.session_core.proofs.replies.refused_message.Given as goal

abbrev pub invariant-loop-key : goal.invariant-loop-key
invariant-loop-key l = l.errors.items ++ map (λ x. (x.0, error_info x.1)) (into_iter_items l.key-iterator) ≡ map (λ x. (x.0, error_info x.1)) l.fn.keys
