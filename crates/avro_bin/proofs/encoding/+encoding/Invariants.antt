use Rattle.std.proofs.Common.{◌≡◌, ◌++◌, map, drop}
use Rattle.std.specs.Io.{StartsWith}
use Rattle.avro_bin.specs.Plain.{plain_all, plain_named}
use Rattle.avro_bin.specs.Value.{row, entries}
use Rattle.avro_bin.specs.View.{value_of, entry_of}
use Rattle.avro_bin.specs.Shape.{AllFit, AllNamedFit}
use Rattle.avro_bin.proofs.encoding.+encoding.Given as goal

abbrev pub invariant-put_all-loop-tree : goal.invariant-put_all-loop-tree
invariant-put_all-loop-tree l = record {
  written : l.out.items ++ plain_all (row (map value_of (drop l.tree-index l.trees))) ≡ l.fn.out.items ++ plain_all (row (map value_of l.trees));
  kept : StartsWith l.out.items l.fn.out.items;
  fit : AllFit (row (map value_of (drop l.tree-index l.trees))) → AllFit (row (map value_of l.trees));
}

abbrev pub invariant-put_named-loop-i : goal.invariant-put_named-loop-i
invariant-put_named-loop-i l = record {
  written : l.out.items ++ plain_named (entries (map entry_of (drop l.i l.named))) ≡ l.fn.out.items ++ plain_named (entries (map entry_of l.named));
  kept : StartsWith l.out.items l.fn.out.items;
  fit : AllNamedFit (entries (map entry_of (drop l.i l.named))) → AllNamedFit (entries (map entry_of l.named));
}
