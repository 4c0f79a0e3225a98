use Rattle.std.proofs.Common.{◌≡◌, ◌++◌, ◌-◌, ◌<◌, length, take}
use Rattle.avro_bin.specs.Number.{plain_number, shortest, top}
use Rattle.avro_bin.proofs.numbers.groups_of.Given as goal

abbrev pub invariant-loop-i : goal.invariant-loop-i
invariant-loop-i l = record {
  so_far : plain_number l.x ≡ take l.i l.groups ++ shortest (9 - l.i) l.left;
  count : length l.groups ≡ 10;
  small : l.left < top (10 - l.i);
}
