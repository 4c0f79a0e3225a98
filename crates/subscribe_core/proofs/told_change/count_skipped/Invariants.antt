use Rattle.std.proofs.Common.{◌≡◌, ◌+◌, drop}
use Rattle.channel_store.specs.Points.{past}
use Rattle.subscribe_core.specs.Views.{below}
use Rattle.subscribe_core.proofs.told_change.count_skipped.Given as goal

abbrev pub invariant-loop-place : goal.invariant-loop-place
invariant-loop-place l = record {
  rest : past l.start (drop l.place l.points) ≡ past l.start l.points;
  count : l.place + below l.start (drop l.place l.points) ≡ below l.start l.points;
}
