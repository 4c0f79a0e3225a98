use Rattle.std.proofs.Common.{◌≡◌, ◌++◌}
use Rattle.std.specs.List.Sorted.{IsStrictlySortedBy}
use Rattle.std.specs.Ordering.{nat_cmp}
use Rattle.std.specs.Cmp.Lexicographic.{slice_cmp}
use Rattle.std.specs.Map.{keys_of}
use Rattle.client_parts.proofs.joining.named.Given as goal

abbrev pub invariant-loop-pair : goal.invariant-loop-pair
invariant-loop-pair g l = (l.items.items ++ l.pair-iterator ≡ l.fn.held.entries) × IsStrictlySortedBy (slice_cmp nat_cmp) (keys_of (l.items.items ++ l.pair-iterator))
