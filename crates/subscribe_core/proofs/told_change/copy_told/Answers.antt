use Rattle.std.proofs.Common.{◌≡◌, true, false, ap, ◌∙◌, arith, w64, of_z, to_z, drop}
use Rattle.std.proofs.lemmas.Int.{ints, to_z-of_z}
use Rattle.channel_store.specs.Points.{at_most, past}
use Rattle.subscribe_core.proofs.PointLemmas.{copied-left, copied-told}
use Rattle.subscribe_core.proofs.told_change.copy_told.Goals.{then-index_at-start+in_ok-copy_at+in_ok-push, else-index_at-start}
use Rattle.subscribe_core.proofs.told_change.copy_told.Goals as goal

pub loop-place-preserved : goal.loop-place-preserved
loop-place-preserved c =
    let xs = c.args.points.now in
    let z = to_z w64 (of_z w64 c.args.start) in
    let same = to_z-of_z w64 c.args.start c.ranges.start in
    let whole = past z (drop c.args.skip xs) in
    let new = c.if-index_at-start.copies.items in
    elim c.if-index_at-start.branch [
      | then-index_at-start+in_ok-copy_at+in_ok-push w ↦
          let t : at_most c.args.start c.index_at.result ≡ true = grind (arith, ints, w.if-index_at-start.true) in
          copied-told c.args.start z same xs c.loop-place.place c.index_at.result w.in_ok-copy_at.field-0 c.loop-place.copies.items new whole
          c.index_at.ensures w.in_ok-copy_at.ensures t (ap (λ v. v.items) w.copies-is ∙ w.in_ok-push.ensures.items) c.loop-place.invariant
      | else-index_at-start w ↦
          let n : at_most c.args.start c.index_at.result ≡ false = grind (arith, ints, w.if-index_at-start.false) in
          copied-left c.args.start z same xs c.loop-place.place c.index_at.result c.loop-place.copies.items new whole
          c.index_at.ensures n (ap (λ v. v.items) w.copies-is) c.loop-place.invariant
    ]
