-- What was gathered and what the generator has left are the rest of the text.
use Rattle.std.proofs.Common.{List, ℕ, ◌≤◌, length}
use Rattle.std.specs.declared.option.Option.{Option}
use Rattle.etp_capture.specs.Capture.{frames_bytes}
use Rattle.gathered_text.specs.Writing.{Going}
use Rattle.load_forms.proofs.writing.write_frames.Given as goal

abbrev pub invariant-loop-wrote : goal.invariant-loop-wrote
invariant-loop-wrote g l = record {
  going : (whole : List ℕ) (before : Option (List ℕ))
      → Going whole l.fn.text.items (frames_bytes l.fn.generator) before (g.W.Sink.held l.fn.out)
      → Going whole l.text.items (frames_bytes l.generator) before (g.W.Sink.held l.out);
  kept : g.W.Sink.faults l.fn.out ≤ g.W.Sink.faults l.out;
}

abbrev pub decreases-loop-wrote : goal.decreases-loop-wrote
decreases-loop-wrote g l = length l.generator
