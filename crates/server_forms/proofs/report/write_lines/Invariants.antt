use Rattle.std.proofs.Common.{List, ℕ, ◌≤◌, drop}
use Rattle.std.specs.declared.option.Option.{Option}
use Rattle.server_forms.specs.Report.{lines_from}
use Rattle.gathered_text.specs.Writing.{Going}
use Rattle.server_forms.proofs.report.write_lines.Given as goal

abbrev pub invariant-loop-place : goal.invariant-loop-place
invariant-loop-place g l = record {
  going : (whole : List ℕ) (before : Option (List ℕ))
      → Going whole l.initial.text.items (lines_from l.store.journal 0 l.store.journal) before (g.W.Sink.held l.initial.out)
      → Going whole l.text.items (lines_from l.store.journal l.place (drop l.place l.store.journal)) before (g.W.Sink.held l.out);
  kept : g.W.Sink.faults l.initial.out ≤ g.W.Sink.faults l.out;
}
