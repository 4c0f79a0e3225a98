use Rattle.std.proofs.Common.{◌<◌, length, drop, arith, length-drop, w64, of_z, to_z}
use Rattle.std.proofs.lemmas.Int.{to_z-of_z}
use Rattle.subscribe_core.proofs.PointLemmas.{append-told}
use Rattle.subscribe_core.proofs.told_change.clip_append.Goals as goal

pub returns-clause-told : goal.returns-clause-told
returns-clause-told c =
    let xs = c.args.points.now in
    let k = c.count_skipped-skip.result in
    let some : 0 < length (drop k xs) = omega (arith, length-drop k xs) in
    append-told c.args.start (to_z w64 (of_z w64 c.args.start)) (to_z-of_z w64 c.args.start c.ranges.start) xs k c.count_skipped-skip.ensures.rest c.count_skipped-skip.ensures.first some
