use Rattle.std.proofs.Common.{◌≡◌, ◌++◌, map, drop}
use Rattle.std.specs.Io.{StartsWith}
use Rattle.avro_bin.specs.Value.{row, entries}
use Rattle.avro_bin.specs.View.{value_of, entry_of}
use Rattle.capture_text.specs.Values.{items_text, entries_text, fields_text}
use Rattle.capture_text.proofs.values.+showing.Given as goal

abbrev pub invariant-put_items-loop-i : goal.invariant-put_items-loop-i
invariant-put_items-loop-i l = record {
  written : l.into.items ++ items_text l.place l.i (row (map value_of (drop l.i l.trees))) ≡ l.fn.into.items ++ items_text l.place 0 (row (map value_of l.trees));
  kept : StartsWith l.into.items l.fn.into.items;
}

abbrev pub invariant-put_entries-loop-i : goal.invariant-put_entries-loop-i
invariant-put_entries-loop-i l = record {
  written : l.into.items ++ entries_text l.place l.i (entries (map entry_of (drop l.i l.named))) ≡ l.fn.into.items ++ entries_text l.place 0 (entries (map entry_of l.named));
  kept : StartsWith l.into.items l.fn.into.items;
}

abbrev pub invariant-put_fields-loop-i : goal.invariant-put_fields-loop-i
invariant-put_fields-loop-i l = record {
  written : l.into.items ++ fields_text l.place l.i (row (map value_of (drop l.i l.trees))) ≡ l.fn.into.items ++ fields_text l.place 0 (row (map value_of l.trees));
  kept : StartsWith l.into.items l.fn.into.items;
}
