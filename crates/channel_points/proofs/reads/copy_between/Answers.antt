use Rattle.std.proofs.Common.{refl, ◌≡◌, ◌+◌, ◌-◌, ◌++◌, length, take, drop, ap, ◌∙◌, arith}
use Rattle.std.specs.Prelude.{min}
use Rattle.std.proofs.lemmas.Result.{on_ok_weaker}
use Rattle.channel_points.specs.Blocks.{joined}
use Rattle.channel_points.proofs.BetweenLemmas.{between-last, between-next}
use Rattle.channel_points.proofs.reads.copy_between.Goals as goal

pub loop-block-preserved : goal.loop-block-preserved
loop-block-preserved c =
    let l = c.loop-block in
    let sealed = c.args.sealed.now in
    let t = c.args.tail.now in
    let b = c.block-item.result in
    let f = c.min-first.result in
    let n = c.min-taken.result in
    let front = l.copies.items in
    let rest = joined (drop (l.block-index + 1) sealed) t in
    let whole = c.args.copies.now.items ++ take c.args.count (drop c.args.start (joined sealed t)) in
    let e : f ≡ min l.skip (length b) = c.min-first.ensures ∙ ap (min l.skip) c.len-size.ensures in
    let g : n ≡ min l.left (length b - f) = c.min-taken.ensures ∙ ap (λ m. min l.left (m - f)) c.len-size.ensures in
    let part = c.between.ensures ∙ ap (λ x. take n (drop f x)) c.as_slice.ensures in
    ap (λ x. x ++ take (l.left - n) (drop (l.skip - f) rest)) (c.in_ok-add_copies.ensures ∙ ap (λ x. front ++ x) part)
    ∙ between-next front b rest whole sealed t l.block-index l.skip l.left f n (omega arith) c.block-item.is e g l.invariant refl

pub returns : goal.returns
returns c =
    let l = c.loop-block in
    let sealed = c.args.sealed.now in
    let t = c.args.tail.now in
    let f = c.min-from.result in
    let n = c.min-rest.result in
    let front = l.copies.items in
    let whole = c.args.copies.now.items ++ take c.args.count (drop c.args.start (joined sealed t)) in
    on_ok_weaker c.add_copies-2.result (λ h. h ∙ ap (λ x. front ++ x) c.between-2.ensures ∙ between-last front whole sealed t l.block-index l.skip l.left f n (omega arith) c.min-from.ensures c.min-rest.ensures l.invariant) c.add_copies-2.ensures
