use Rattle.std.proofs.Common.{◌≡◌, ◌++◌, drop}
use Rattle.etp_values.proofs.copied.ListCopied.copy.Given as goal

abbrev pub invariant-loop-item : goal.invariant-loop-item
invariant-loop-item g l = l.items.items ++ drop l.item-index l.item-items ≡ l.self
