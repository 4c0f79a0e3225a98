use Rattle.std.proofs.Common.{◌≡◌, suc, ◌-◌, ◌++◌, ◌∙◌, ◌==◌, ap, arith, length}
use Rattle.std.specs.Vec.Iter.{into_iter_items}
use Rattle.session_core.specs.Sending.{ended}
use Rattle.session_core.proofs.SendingLemmas.{ended_more}
use Rattle.session_core.proofs.parting.push_ended.Goals as goal

pub loop-message-preserved : goal.loop-message-preserved
loop-message-preserved c =
    let step = c.in-Some.ensures.steps.0 in
    let so_far = c.loop-message.invariant in
    let items = into_iter_items c.loop-message.message-iterator in
    let rest = into_iter_items c.next.new.self in
    let counted : c.loop-message.left ≡ suc (length rest) = so_far.left ∙ ap length step in
    let left : c.loop-message.left - 1 ≡ length rest = omega arith in
    record {
      left = left;
      parts = ended_more c.args.to c.in-Some.message items rest (c.loop-message.left - 1 == 0) c.loop-message.parts.items c.push.new.self.items
          (c.args.parts.now.items ++ ended c.args.to c.args.messages) step (ap (λ n. n == 0) left) c.in_ok-push.ensures.items so_far.parts;
    }
