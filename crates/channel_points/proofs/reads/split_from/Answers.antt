use Rattle.std.proofs.Common.{◌≡◌, ◌<◌, ◌≤◌, ◌+◌, length, sym, subst, arith, w64, to_z, of_z}
use Rattle.std.proofs.lemmas.Int.{to_z-of_z}
use Rattle.channel_points.specs.Blocks.{joined}
use Rattle.channel_points.specs.Chunks.{lies_before}
use Rattle.channel_points.specs.Order.{Rises}
use Rattle.channel_points.specs.Splits.{IsSplit}
use Rattle.channel_points.proofs.ReadLemmas.{count-next, pass-next, rises-at, rises-last, size-at, size-last, split-at, split-last}
use Rattle.channel_points.proofs.reads.split_from.Goals as goal

pub count_in-here-requires : goal.count_in-here-requires
count_in-here-requires c =
    let l = c.loop-block in
    let b = c.block-item.result in
    subst Rises (sym c.as_slice.ensures) (rises-at _ c.args.sealed.now c.args.tail.now l.block-index b (omega arith) c.block-item.is c.requires.rises)

pub loop-block-preserved : goal.loop-block-preserved
loop-block-preserved c =
    let l = c.loop-block in
    let sealed = c.args.sealed.now in
    let b = c.block-item.result in
    let end = to_z w64 (of_z w64 c.args.index) in
    let split = subst (λ x. IsSplit (λ y. lies_before c.args.ends end y.index) x c.count_in-here.result) c.as_slice.ensures c.count_in-here.ensures in
    let next = count-next sealed l.block-index b (omega arith) c.block-item.is in
    let within : c.count_in-here.result ≤ length b = split.within in
    record {
      pass = pass-next c.args.ends end sealed l.block-index b c.count_in-here.result (omega arith) c.block-item.is l.invariant.pass split (omega (arith, c.len.ensures));
      counted = omega (arith, next, c.len.ensures, l.invariant.counted);
    }

pub overflow_add-result : goal.overflow_add-result
overflow_add-result c =
    let l = c.loop-block in
    let b = c.block-item.result in
    let within : c.count_in-here.result ≤ length b = subst (λ x. c.count_in-here.result ≤ length x) c.as_slice.ensures c.count_in-here.ensures.within in
    let all = size-at c.args.sealed.now c.args.tail.now l.block-index b (omega arith) c.block-item.is in
    omega (arith, within, all, l.invariant.counted, c.requires.bounded)

pub overflow_add-count : goal.overflow_add-count
overflow_add-count c =
    let l = c.loop-block in
    let b = c.block-item.result in
    let within : c.count_in-here.result ≤ length b = subst (λ x. c.count_in-here.result ≤ length x) c.as_slice.ensures c.count_in-here.ensures.within in
    let all = size-at c.args.sealed.now c.args.tail.now l.block-index b (omega arith) c.block-item.is in
    omega (arith, within, all, l.invariant.counted, c.requires.bounded)

pub returns-then-here-len : goal.returns-then-here-len
returns-then-here-len c =
    let l = c.loop-block in
    let sealed = c.args.sealed.now in
    let t = c.args.tail.now in
    let b = c.block-item.result in
    let n = c.count_in-here.result in
    let same : to_z w64 (of_z w64 c.args.index) ≡ c.args.index = to_z-of_z w64 c.args.index c.ranges.index in
    let end = to_z w64 (of_z w64 c.args.index) in
    let split = subst (λ x. IsSplit (λ y. lies_before c.args.ends end y.index) x n) c.as_slice.ensures c.count_in-here.ensures in
    let some : n < length b = omega (arith, c.len.ensures) in
    subst (λ X. X) (λ j. IsSplit (λ x. lies_before c.args.ends (same j) x.index) (joined sealed t) (sym l.invariant.counted j + n))
    (split-at c.args.ends end sealed t l.block-index b n c.requires.rises (omega arith) c.block-item.is l.invariant.pass split some)

pub count_in-requires : goal.count_in-requires
count_in-requires c = rises-last _ c.args.sealed.now c.args.tail.now c.requires.rises

pub overflow_add-result-2 : goal.overflow_add-result-2
overflow_add-result-2 c =
    let l = c.loop-block in
    let all = size-last c.args.sealed.now c.args.tail.now l.block-index (omega arith) in
    omega (arith, all, c.count_in.ensures.within, l.invariant.counted, c.requires.bounded)

pub returns : goal.returns
returns c =
    let l = c.loop-block in
    let sealed = c.args.sealed.now in
    let t = c.args.tail.now in
    let n = c.count_in.result in
    let same : to_z w64 (of_z w64 c.args.index) ≡ c.args.index = to_z-of_z w64 c.args.index c.ranges.index in
    let end = to_z w64 (of_z w64 c.args.index) in
    subst (λ X. X) (λ j. IsSplit (λ x. lies_before c.args.ends (same j) x.index) (joined sealed t) (sym l.invariant.counted j + n))
    (split-last c.args.ends end sealed t l.block-index n (omega arith) l.invariant.pass c.count_in.ensures)
