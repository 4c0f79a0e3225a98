use Rattle.std.proofs.Common.{◌++◌, ◌-◌}
use Rattle.std.specs.Vec.Iter.{into_iter_items}
use Rattle.session_core.specs.Sending.{numbered, is_spent, next_after}
use Rattle.session_core.proofs.SendingLemmas.{left_more, next_more, one_left, parts_more, spent_more}
use Rattle.session_core.proofs.outbox.Outbox.number.Goals as goal

pub overflow_sub-left : goal.overflow_sub-left
overflow_sub-left c =
    one_left c.in-Some.part (into_iter_items c.loop-part.part-iterator) (into_iter_items c.next.new.self) c.loop-part.left c.replies_to-left.result c.in-Some.ensures.steps.0 c.replies_to-left.ensures c.loop-part.invariant.left

pub loop-part-preserved : goal.loop-part-preserved
loop-part-preserved c =
    let step = c.in-Some.ensures.steps.0 in
    let so_far = c.loop-part.invariant in
    let low = c.if-id-gt-MAX_ID.false in
    let p = c.in-Some.part in
    let items = into_iter_items c.loop-part.part-iterator in
    let rest = into_iter_items c.next.new.self in
    let one = c.replies_to-left.result in
    let left = left_more p items rest c.loop-part.left one step c.replies_to-left.ensures so_far.left in
    record {
      left = left;
      parts = parts_more c.args.request.now c.loop-part.id (c.loop-part.left - one) p items rest c.loop-part.self c.push.new.self
          (c.args.self.now ++ numbered c.args.request.now c.args.next c.args.parts) c.outgoing.result low step left c.outgoing.ensures.value c.in_ok-push.ensures so_far.parts;
      next = next_more c.loop-part.id (next_after c.args.next c.args.parts) p items rest low step so_far.next;
      spent = spent_more c.loop-part.id (is_spent c.args.next c.args.parts) p items rest low step so_far.spent;
    }
