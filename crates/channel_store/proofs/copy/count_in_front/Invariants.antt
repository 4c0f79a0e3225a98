use Rattle.std.proofs.Common.{◌≡◌, true, take}
use Rattle.std.specs.List.{AllByRecursion}
use Rattle.channel_store.specs.Points.{at_most}
use Rattle.channel_store.proofs.copy.count_in_front.Given as goal

abbrev pub invariant-loop-i : goal.invariant-loop-i
invariant-loop-i l = AllByRecursion (λ x. at_most x.index l.to ≡ true) (take l.i l.points)
