use Rattle.std.proofs.Common.{◌≤◌, ℕ, List}
use Rattle.client_forms.specs.Ctl.{Course}
use Rattle.client_forms.specs.Filling.{ReadsFor}
use Rattle.client_forms.proofs.loading.Reader.fill.Given as goal

-- it reads on for whatever it read for
abbrev pub invariant-loop : goal.invariant-loop
invariant-loop g l = record {
  reads : (bytes : List ℕ) (f : Course → Course) → ReadsFor bytes (g.R.Source.left l.fn.from) l.fn.self f → ReadsFor bytes (g.R.Source.left l.from) l.self f;
  kept : g.R.Source.faults l.fn.from ≤ g.R.Source.faults l.from;
}
