use Rattle.std.proofs.Common.{◌≡◌, ◌≤◌, ◌+◌, [], length, take, drop, ap, sym, subst, ◌∙◌, arith, length-append, w64, to_z, of_z}
use Rattle.std.proofs.lemmas.Int.{to_z-of_z}
use Rattle.channel_points.specs.Blocks.{joined}
use Rattle.channel_points.specs.Chunks.{lies_before}
use Rattle.channel_points.specs.Order.{Rises}
use Rattle.channel_points.specs.Splits.{IsSplit}
use Rattle.channel_points.proofs.ReadLemmas.{joined-split, rest-is, rises-back, rises-sealed, split-behind}
use Rattle.channel_points.proofs.reads.split.Goals as goal

pub blocks_before-first-requires : goal.blocks_before-first-requires
blocks_before-first-requires c = rises-sealed _ c.args.sealed.now c.args.tail.now c.requires.rises

pub count_all-before-requires : goal.count_all-before-requires
count_all-before-requires c =
    let sealed = c.args.sealed.now in
    let t = c.args.tail.now in
    let n = c.blocks_before-first.result in
    let size : length (joined sealed t) ≡ length (joined (take n sealed) []) + length (joined (drop n sealed) t) = ap length (sym (joined-split n sealed t)) ∙ length-append (joined (take n sealed) []) (joined (drop n sealed) t) in
    omega (arith, size, c.requires.bounded)

pub split_from-requires-clause-rises : goal.split_from-requires-clause-rises
split_from-requires-clause-rises c =
    let sealed = c.args.sealed.now in
    let t = c.args.tail.now in
    let n = c.blocks_before-first.result in
    subst (λ cs. Rises (joined cs t)) (sym (rest-is n sealed)) (rises-back _ (joined (take n sealed) []) (joined (drop n sealed) t) (subst Rises (sym (joined-split n sealed t)) c.requires.rises))

pub split_from-requires-clause-bounded : goal.split_from-requires-clause-bounded
split_from-requires-clause-bounded c =
    let sealed = c.args.sealed.now in
    let t = c.args.tail.now in
    let n = c.blocks_before-first.result in
    let size : length (joined sealed t) ≡ length (joined (take n sealed) []) + length (joined (drop n sealed) t) = ap length (sym (joined-split n sealed t)) ∙ length-append (joined (take n sealed) []) (joined (drop n sealed) t) in
    subst (λ cs. length (joined cs t) ≤ 18446744073709551615) (sym (rest-is n sealed)) (omega (arith, size, c.requires.bounded))

pub overflow_add-result : goal.overflow_add-result
overflow_add-result c =
    let sealed = c.args.sealed.now in
    let t = c.args.tail.now in
    let n = c.blocks_before-first.result in
    let size : length (joined sealed t) ≡ length (joined (take n sealed) []) + length (joined (drop n sealed) t) = ap length (sym (joined-split n sealed t)) ∙ length-append (joined (take n sealed) []) (joined (drop n sealed) t) in
    let within : c.split_from.result ≤ length (joined (drop n sealed) t) = subst (λ cs. c.split_from.result ≤ length (joined cs t)) (rest-is n sealed) c.split_from.ensures.within in
    omega (arith, size, within, c.count_all-before.ensures, c.requires.bounded)

pub returns : goal.returns
returns c =
    let sealed = c.args.sealed.now in
    let t = c.args.tail.now in
    let n = c.blocks_before-first.result in
    let m = c.split_from.result in
    let same : to_z w64 (of_z w64 c.args.index) ≡ c.args.index = to_z-of_z w64 c.args.index c.ranges.index in
    let end = to_z w64 (of_z w64 c.args.index) in
    let back = subst (λ cs. IsSplit (λ x. lies_before c.args.ends end x.index) (joined cs t) m) (rest-is n sealed) c.split_from.ensures in
    subst (λ X. X) (λ j. IsSplit (λ x. lies_before c.args.ends (same j) x.index) (joined-split n sealed t j) (sym c.count_all-before.ensures j + m)) (split-behind _ (joined (take n sealed) []) (joined (drop n sealed) t) m c.blocks_before-first.ensures.before back)
