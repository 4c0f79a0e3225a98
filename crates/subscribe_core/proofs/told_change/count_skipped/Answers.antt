use Rattle.std.proofs.Common.{◌≡◌, true, false, arith, w64, of_z, to_z}
use Rattle.std.proofs.lemmas.Int.{ints, to_z-of_z}
use Rattle.channel_store.specs.Points.{at_most}
use Rattle.subscribe_core.proofs.PointLemmas.{counted, counted-more, first-told, skipped-more}
use Rattle.subscribe_core.proofs.told_change.count_skipped.Goals as goal

pub returns-then-index_at-start-clause-first : goal.returns-then-index_at-start-clause-first
returns-then-index_at-start-clause-first c =
    let t : at_most c.args.start c.index_at.result ≡ true = grind (arith, ints, c.if-index_at-start.true) in
    first-told c.args.start c.args.points.now c.loop-place.place c.index_at.result c.index_at.ensures t

pub returns-then-index_at-start-clause-count : goal.returns-then-index_at-start-clause-count
returns-then-index_at-start-clause-count c =
    let t : at_most c.args.start c.index_at.result ≡ true = grind (arith, ints, c.if-index_at-start.true) in
    counted c.args.start (to_z w64 (of_z w64 c.args.start)) (to_z-of_z w64 c.args.start c.ranges.start) c.args.points.now c.loop-place.place c.index_at.result
    c.index_at.ensures t c.loop-place.invariant.count

pub loop-place-preserved : goal.loop-place-preserved
loop-place-preserved c =
    let n : at_most c.args.start c.index_at.result ≡ false = grind (arith, ints, c.if-index_at-start.false) in
    let s = c.args.start in
    let z = to_z w64 (of_z w64 s) in
    let same = to_z-of_z w64 s c.ranges.start in
    record {
      rest = skipped-more s z same c.args.points.now c.loop-place.place c.index_at.result c.index_at.ensures n c.loop-place.invariant.rest;
      count = counted-more s z same c.args.points.now c.loop-place.place c.index_at.result c.index_at.ensures n c.loop-place.invariant.count;
    }
