use Rattle.server_forms.specs.Counts.{CountsSoFar}
use Rattle.server_forms.proofs.report.counts.Given as goal

abbrev pub invariant-loop-place : goal.invariant-loop-place
invariant-loop-place l = CountsSoFar l.store.journal l.place l.counts.items
