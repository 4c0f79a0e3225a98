use Rattle.std.proofs.Common.{◌≡◌, ◌++◌, drop}
use Rattle.std.specs.Io.{StartsWith}
use Rattle.capture_text.specs.Pieces.{hex}
use Rattle.capture_text.proofs.pieces.put_hex.Given as goal

abbrev pub invariant-loop-byte : goal.invariant-loop-byte
invariant-loop-byte l = record {
  written : l.into.items ++ hex (drop l.byte-index l.bytes) ≡ l.fn.into.items ++ hex l.bytes;
  kept : StartsWith l.into.items l.fn.into.items;
}
