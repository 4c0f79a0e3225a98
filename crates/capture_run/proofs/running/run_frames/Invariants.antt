use Rattle.std.proofs.Common.{◌≡◌, ◌≤◌, ◌+◌, ◌-◌, None}
use Rattle.etp_capture.specs.Frames.{capture_limit}
use Rattle.capture_run.specs.Running.{Going, between}
use Rattle.capture_run.proofs.running.run_frames.Given as goal

abbrev pub invariant-loop-stop : goal.invariant-loop-stop
invariant-loop-stop g l = record {
  going : Going (g.F.Form.plan l.fn.form) (g.F.Form.stands l.form) l.reader.at l.gathered.items (between (g.R.Source.left l.fn.input) (g.R.Source.left l.input)) (between (g.W.Sink.held l.fn.out) (g.W.Sink.held l.out));
  plan : g.F.Form.plan l.form ≡ g.F.Form.plan l.fn.form;
  fits : g.F.Form.fits l.form l.reader.at;
  fresh : l.reader.failed ≡ None;
  begun : 8 ≤ l.reader.at;
  within : l.reader.at ≤ capture_limit;
  read_kept : g.R.Source.faults l.fn.input ≤ g.R.Source.faults l.input;
  write_kept : g.W.Sink.faults l.fn.out ≤ g.W.Sink.faults l.out;
}

abbrev pub decreases-loop-stop : goal.decreases-loop-stop
decreases-loop-stop g l = capture_limit + 1 - l.reader.at
