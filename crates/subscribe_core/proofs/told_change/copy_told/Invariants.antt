use Rattle.std.proofs.Common.{◌≡◌, ◌++◌, drop}
use Rattle.channel_store.specs.Points.{past}
use Rattle.subscribe_core.proofs.told_change.copy_told.Given as goal

abbrev pub invariant-loop-place : goal.invariant-loop-place
invariant-loop-place l = l.copies.items ++ past l.start (drop l.place l.points) ≡ past l.start (drop l.skip l.points)
