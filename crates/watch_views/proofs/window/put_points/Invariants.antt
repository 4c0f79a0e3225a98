use Rattle.std.proofs.Common.{◌≡◌, ◌++◌, drop}
use Rattle.std.specs.Io.{StartsWith}
use Rattle.std.specs.List.{flat_map}
use Rattle.capture_text.specs.Points.{point_line}
use Rattle.watch_views.proofs.window.put_points.Given as goal

abbrev pub invariant-loop-point : goal.invariant-loop-point
invariant-loop-point l = record {
  written : l.into.items ++ flat_map point_line (drop l.point-index l.points) ≡ l.fn.into.items ++ flat_map point_line l.points;
  kept : StartsWith l.into.items l.fn.into.items;
}
