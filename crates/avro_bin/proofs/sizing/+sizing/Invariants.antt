use Rattle.std.proofs.Common.{◌≡◌, ◌+◌, ◌-◌, ◌^◌, ◌<◌, map, drop, length}
use Rattle.std.specs.Prelude.{min}
use Rattle.avro_bin.specs.Plain.{plain_all, plain_named}
use Rattle.avro_bin.specs.Value.{row, entries}
use Rattle.avro_bin.specs.View.{value_of, entry_of}
use Rattle.avro_bin.proofs.sizing.+sizing.Given as goal

abbrev pub invariant-all_size-loop-tree : goal.invariant-all_size-loop-tree
invariant-all_size-loop-tree l = record {
  small : l.sum < 2 ^ 64;
  total : min (l.sum + length (plain_all (row (map value_of (drop l.tree-index l.trees))))) (2 ^ 64 - 1) ≡ min (length (plain_all (row (map value_of l.trees)))) (2 ^ 64 - 1);
}

abbrev pub invariant-named_size-loop-i : goal.invariant-named_size-loop-i
invariant-named_size-loop-i l = record {
  small : l.sum < 2 ^ 64;
  total : min (l.sum + length (plain_named (entries (map entry_of (drop l.i l.named))))) (2 ^ 64 - 1) ≡ min (length (plain_named (entries (map entry_of l.named)))) (2 ^ 64 - 1);
}
