use Rattle.std.proofs.Common.{◌≡◌, ◌++◌, drop, map}
use Rattle.store_machine.specs.declared.call.Cutting.{Cutting}
use Rattle.store_machine.proofs.cuts.ends_of.Given as goal

abbrev pub invariant-loop-cut : goal.invariant-loop-cut
invariant-loop-cut l = l.ends.items ++ map (λ (c : Cutting). c.end) (drop l.cut-index l.cut-items) ≡ map (λ (c : Cutting). c.end) l.cuts
