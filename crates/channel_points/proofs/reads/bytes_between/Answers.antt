use Rattle.std.proofs.Common.{◌≡◌, ◌+◌, ◌-◌, ◌++◌, length, take, drop, ap, ◌∙◌, arith}
use Rattle.std.specs.Prelude.{min}
use Rattle.etp_values.specs.Weight.{capped, weigh}
use Rattle.channel_points.specs.Blocks.{joined}
use Rattle.channel_points.specs.Bytes.{point_bytes}
use Rattle.channel_points.proofs.BetweenLemmas.{between-step, joined-from}
use Rattle.channel_points.proofs.ReadLemmas.{bytes-next, weigh-append}
use Rattle.channel_points.proofs.reads.bytes_between.Goals as goal

pub loop-block-preserved : goal.loop-block-preserved
loop-block-preserved c =
    let l = c.loop-block in
    let sealed = c.args.sealed.now in
    let t = c.args.tail.now in
    let b = c.block-item.result in
    let f = c.min-first.result in
    let n = c.min-taken.result in
    let rest = joined (drop (l.block-index + 1) sealed) t in
    let part = take n (drop f b) in
    let later = take (l.left - n) (drop (l.skip - f) rest) in
    let e : f ≡ min l.skip (length b) = c.min-first.ensures ∙ ap (min l.skip) c.len-size.ensures in
    let g : n ≡ min l.left (length b - f) = c.min-taken.ensures ∙ ap (λ m. min l.left (m - f)) c.len-size.ensures in
    let whole : take l.left (drop l.skip (joined (drop l.block-index sealed) t)) ≡ part ++ later = ap (λ x. take l.left (drop l.skip x)) (joined-from sealed t l.block-index b (omega arith) c.block-item.is) ∙ between-step b rest l.skip l.left f n e g in
    let all = ap (weigh point_bytes) whole ∙ weigh-append point_bytes part later in
    let here : c.points_bytes.result ≡ capped (weigh point_bytes part) = c.points_bytes.ensures ∙ ap (λ x. capped (weigh point_bytes x)) (c.between.ensures ∙ ap (λ x. take n (drop f x)) c.as_slice.ensures) in
    let new : c.saturating_add-sum.result ≡ capped (l.sum + capped (weigh point_bytes part)) = omega (arith, c.saturating_add-sum.ensures, here) in
    record {
      total = bytes-next l.sum (weigh point_bytes part) (weigh point_bytes later) _ _ c.saturating_add-sum.result new all l.invariant.total;
      fits = omega (arith, new);
    }
