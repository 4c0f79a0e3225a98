-- What is numbered so far, and what is left from the next id on, make the whole.
use Rattle.std.proofs.Common.{◌≡◌, ◌++◌}
use Rattle.std.specs.Vec.Iter.{into_iter_items}
use Rattle.session_core.specs.Sending.{numbered, is_spent, next_after, replies_in}
use Rattle.session_core.proofs.outbox.Outbox.number.Given as goal

abbrev pub invariant-loop-part : goal.invariant-loop-part
invariant-loop-part l = record {
  left : l.left ≡ replies_in (into_iter_items l.part-iterator);
  parts : l.self ++ numbered l.request l.id (into_iter_items l.part-iterator) ≡ l.fn.self ++ numbered l.fn.request l.fn.next l.fn.parts;
  next : next_after l.id (into_iter_items l.part-iterator) ≡ next_after l.fn.next l.fn.parts;
  spent : is_spent l.id (into_iter_items l.part-iterator) ≡ is_spent l.fn.next l.fn.parts;
}
