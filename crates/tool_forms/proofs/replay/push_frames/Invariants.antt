-- What was appended, and what is left.
use Rattle.std.proofs.Common.{◌≡◌, ◌++◌}
use Rattle.std.specs.Io.{StartsWith}
use Rattle.std.specs.Vec.Iter.{into_iter_items}
use Rattle.etp_capture.specs.Capture.{frames_bytes}
use Rattle.tool_forms.proofs.replay.push_frames.Given as goal

abbrev pub invariant-loop-frame : goal.invariant-loop-frame
invariant-loop-frame l = record {
  bytes : l.into.items ++ frames_bytes (into_iter_items l.frame-iterator) ≡ l.fn.into.items ++ frames_bytes l.fn.frames.items;
  kept : StartsWith l.into.items l.fn.into.items;
}
