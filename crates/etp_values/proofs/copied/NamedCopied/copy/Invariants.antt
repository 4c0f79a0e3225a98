use Rattle.std.proofs.Common.{◌≡◌, ◌++◌, drop}
use Rattle.etp_values.proofs.copied.NamedCopied.copy.Given as goal

abbrev pub invariant-loop-pair : goal.invariant-loop-pair
invariant-loop-pair g l = l.items.items ++ drop l.pair-index l.pair-items ≡ l.self
