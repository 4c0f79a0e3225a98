use Rattle.std.proofs.Common.{◌≡◌, ◌++◌, ◌∙◌, ap, sym, append_assoc}
use Rattle.std.specs.Vec.Iter.{into_iter_items}
use Rattle.etp_frame.specs.Splitting.{parts}
use Rattle.session_core.specs.Sending.{blobs_after, blobs_sent, cut_all, ended}
use Rattle.session_core.proofs.parting.cut_all.Goals as goal

pub loop-saying-preserved : goal.loop-saying-preserved
loop-saying-preserved c =
    let step = c.in-Some.ensures.steps.0 in
    let so_far = c.loop-saying.invariant in
    let x = c.in-Some.saying in
    let rest = into_iter_items c.next.new.self in
    let limit = c.args.limit in
    let number = c.args.number in
    let before = c.loop-saying.sent in
    let after : c.in_ok-sent.sent ≡ blobs_after limit before x.message = c.in_ok-sent.ensures.blobs in
    record {
      parts = ap (λ l. l ++ cut_all limit number c.in_ok-sent.sent rest) c.in_ok-sent.ensures.parts
          ∙ append_assoc c.loop-saying.parts.items (ended x.to (parts limit number before x.message)) (cut_all limit number c.in_ok-sent.sent rest)
          ∙ ap (λ n. c.loop-saying.parts.items ++ (ended x.to (parts limit number before x.message) ++ cut_all limit number n rest)) after
          ∙ ap (λ l. c.loop-saying.parts.items ++ cut_all limit number before l) (sym step)
          ∙ so_far.parts;
      blobs = ap (λ n. blobs_sent limit n rest) after ∙ ap (λ l. blobs_sent limit before l) (sym step) ∙ so_far.blobs;
    }
