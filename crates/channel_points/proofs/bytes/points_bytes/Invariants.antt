use Rattle.std.proofs.Common.{◌≡◌, ◌+◌, ◌-◌, ◌^◌, ◌≤◌, drop}
use Rattle.etp_values.specs.Weight.{capped, weigh}
use Rattle.channel_points.specs.Bytes.{point_bytes}
use Rattle.channel_points.proofs.bytes.points_bytes.Given as goal

abbrev pub invariant-loop-point : goal.invariant-loop-point
invariant-loop-point l = record {
  total : capped (l.sum + weigh point_bytes (drop l.point-index l.points)) ≡ capped (weigh point_bytes l.points);
  fits : l.sum ≤ 2 ^ 64 - 1;
}
