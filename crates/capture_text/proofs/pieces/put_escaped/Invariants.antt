use Rattle.std.proofs.Common.{◌≡◌, ◌++◌, drop}
use Rattle.std.specs.Io.{StartsWith}
use Rattle.capture_text.specs.Pieces.{escaped}
use Rattle.capture_text.proofs.pieces.put_escaped.Given as goal

abbrev pub invariant-loop-byte : goal.invariant-loop-byte
invariant-loop-byte l = record {
  written : l.into.items ++ escaped (drop l.byte-index l.text) ≡ l.fn.into.items ++ escaped l.text;
  kept : StartsWith l.into.items l.fn.into.items;
}
