-- With the channels that are left, there is a group for each.
use Rattle.std.proofs.Common.{◌≡◌, ℤ, [], Some, cond, drop}
use Rattle.std.specs.BTreeMap.{get}
use Rattle.std.specs.List.{list_any}
use Rattle.std.specs.Ordering.{int_cmp, int_eq}
use Rattle.client_parts.specs.Grouping.{group}
use Rattle.client_parts.proofs.grouping.listed.Given as goal

abbrev pub invariant-loop-channel : goal.invariant-loop-channel
invariant-loop-channel l = (q : ℤ) → cond (list_any (λ c. int_eq c q) (drop l.channel-index l.channels)) (Some []) (get int_cmp l.held q) ≡ group l.channels [] q
