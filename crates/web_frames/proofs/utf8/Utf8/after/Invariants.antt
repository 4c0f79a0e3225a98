use Rattle.std.proofs.Common.{◌≡◌, drop, Some}
use Rattle.web_frames.specs.Utf8.{after_bytes}
use Rattle.web_frames.proofs.utf8.Utf8.after.Given as goal

-- what is left of the piece leads where the whole piece does
abbrev pub invariant-loop-byte : goal.invariant-loop-byte
invariant-loop-byte l = after_bytes (Some l.fn.self) l.piece ≡ after_bytes (Some l.state) (drop l.byte-index l.piece)
