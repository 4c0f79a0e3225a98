use Rattle.std.proofs.Common.{◌≡◌, ◌++◌, drop, map}
use Rattle.store_machine.specs.declared.call.Cutting.{Cutting}
use Rattle.store_machine.proofs.cuts.channels_of.Given as goal

abbrev pub invariant-loop-cut : goal.invariant-loop-cut
invariant-loop-cut l = l.channels.items ++ map (λ (c : Cutting). c.channel) (drop l.cut-index l.cut-items) ≡ map (λ (c : Cutting). c.channel) l.cuts
