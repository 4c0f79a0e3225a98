use Rattle.std.proofs.Common.{◌≡◌, ◌++◌, ℤ, [], drop, map}
use Rattle.std.specs.BTreeMap.{get}
use Rattle.std.specs.Option.{unwrap_or}
use Rattle.std.specs.Ordering.{int_cmp}
use Rattle.client_parts.specs.Changes.{replaced_by}
use Rattle.client_parts.proofs.changes.all_replaced.Given as goal

abbrev pub invariant-loop-channel : goal.invariant-loop-channel
invariant-loop-channel l = record {
  same : (q : ℤ) → get int_cmp l.held q ≡ get int_cmp l.fn.held q;
  changes : l.changes.items ++ map (λ c. replaced_by l.interval (unwrap_or (get int_cmp l.fn.held c) []) c) (drop l.channel-index l.channels)
      ≡ map (λ c. replaced_by l.interval (unwrap_or (get int_cmp l.fn.held c) []) c) l.channels;
}
