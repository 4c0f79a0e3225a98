use Rattle.std.proofs.Common.{◌≡◌, ◌++◌, drop, map}
use Rattle.channel_points.specs.Handles.{of_channel}
use Rattle.channel_points.proofs.items.items_of.Given as goal

abbrev pub invariant-loop-point : goal.invariant-loop-point
invariant-loop-point l = l.items.items ++ map (of_channel l.channel) (drop l.point-index l.points) ≡ map (of_channel l.channel) l.points
