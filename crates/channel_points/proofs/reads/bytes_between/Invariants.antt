use Rattle.std.proofs.Common.{◌≡◌, ◌+◌, ◌-◌, ◌^◌, ◌≤◌, take, drop}
use Rattle.etp_values.specs.Weight.{capped, weigh}
use Rattle.channel_points.specs.Blocks.{joined}
use Rattle.channel_points.specs.Bytes.{point_bytes}
use Rattle.channel_points.proofs.reads.bytes_between.Given as goal

abbrev pub invariant-loop-block : goal.invariant-loop-block
invariant-loop-block l = record {
  total : capped (l.sum + weigh point_bytes (take l.left (drop l.skip (joined (drop l.block-index l.sealed) l.tail)))) ≡ capped (weigh point_bytes (take l.count (drop l.start (joined l.sealed l.tail))));
  fits : l.sum ≤ 2 ^ 64 - 1;
}
