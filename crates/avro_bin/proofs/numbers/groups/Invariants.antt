use Rattle.std.proofs.Common.{◌≡◌, ◌-◌, ◌^◌, ◌<◌, ◌≤◌, length, drop}
use Rattle.avro_bin.specs.Reading.{groups_at}
use Rattle.avro_bin.specs.Groups.{raised}
use Rattle.avro_bin.proofs.numbers.groups.Given as goal

abbrev pub invariant-loop-i : goal.invariant-loop-i
invariant-loop-i l = record {
  so_far : groups_at 10 l.bytes ≡ raised l.low l.weight (groups_at (10 - l.i) (drop l.i l.bytes));
  within : l.i ≤ length l.bytes;
  power : l.weight ≡ 128 ^ l.i;
  below : l.low < l.weight;
}
