use Rattle.std.proofs.Common.{refl, ◌≡◌, ◌≤◌, ◌+◌, ◌-◌, ◌++◌, [], length, take, drop, ap, sym, subst, ◌∙◌, arith}
use Rattle.std.specs.Prelude.{min}
use Rattle.std.proofs.lemmas.Result.{on_ok_weaker}
use Rattle.channel_points.specs.Blocks.{joined}
use Rattle.channel_points.proofs.BetweenLemmas.{between-last, between-next}
use Rattle.channel_points.proofs.OrderedLemmas.{all-at}
use Rattle.channel_points.proofs.blocks.add_between.Goals as goal

pub add_part-requires-clause-few : goal.add_part-requires-clause-few
add_part-requires-clause-few c =
    let l = c.loop-block in
    let b = c.block-item.result in
    subst (λ x. length x ≤ 1024) (sym c.block-item.is) (all-at (λ x. length x ≤ 1024) c.args.sealed.now l.block-index b c.requires.sealed (omega arith))

pub loop-block-preserved : goal.loop-block-preserved
loop-block-preserved c =
    let l = c.loop-block in
    let sealed = c.args.sealed.now in
    let t = c.args.tail.now in
    let b = c.block-item.result in
    let f = c.min-first.result in
    let n = c.min-taken.result in
    let front = joined l.blocks.items [] in
    let rest = joined (drop (l.block-index + 1) sealed) t in
    let whole = joined c.args.blocks.now.items [] ++ take c.args.count (drop c.args.start (joined sealed t)) in
    let e : f ≡ min l.skip (length b) = c.min-first.ensures ∙ ap (min l.skip) c.len-size.ensures in
    let g : n ≡ min l.left (length b - f) = c.min-taken.ensures ∙ ap (λ m. min l.left (m - f)) c.len-size.ensures in
    record {
      chunks = c.in_ok-add_part.ensures.chunks;
      points = ap (λ x. x ++ take (l.left - n) (drop (l.skip - f) rest)) c.in_ok-add_part.ensures.points
          ∙ between-next front b rest whole sealed t l.block-index l.skip l.left f n (omega arith) c.block-item.is e g l.invariant.points refl;
    }

pub returns-clause-points : goal.returns-clause-points
returns-clause-points c =
    let l = c.loop-block in
    let sealed = c.args.sealed.now in
    let t = c.args.tail.now in
    let f = c.min-from.result in
    let n = c.min-rest.result in
    let front = joined l.blocks.items [] in
    let whole = joined c.args.blocks.now.items [] ++ take c.args.count (drop c.args.start (joined sealed t)) in
    let last : c.own.result ≡ take n (drop f t) = c.own.ensures ∙ c.in_ok-last.ensures ∙ c.between.ensures in
    on_ok_weaker c.add_block.result (λ h. h ∙ ap (λ x. front ++ x) last ∙ between-last front whole sealed t l.block-index l.skip l.left f n (omega arith) c.min-from.ensures c.min-rest.ensures l.invariant.points) c.add_block.ensures.points
