use Rattle.std.proofs.Common.{◌≡◌, ◌++◌, drop}
use Rattle.point_lines.specs.Spelling.{bytes_text}
use Rattle.point_lines.proofs.spelling.put_bytes.Given as goal

-- what was written, and what the bytes that are left give
abbrev pub invariant-loop-byte : goal.invariant-loop-byte
invariant-loop-byte l = l.into.items ++ bytes_text (drop l.byte-index l.bytes) ≡ l.fn.into.items ++ bytes_text l.bytes
