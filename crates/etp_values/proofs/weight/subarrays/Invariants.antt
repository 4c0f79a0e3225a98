use Rattle.std.proofs.Common.{◌≡◌, ◌+◌, ◌-◌, ◌^◌, ◌≤◌, drop}
use Rattle.etp_values.specs.Weight.{capped, weigh, subarray_weight, list_weight}
use Rattle.etp_values.proofs.weight.subarrays.Given as goal

abbrev pub invariant-loop-subarray : goal.invariant-loop-subarray
invariant-loop-subarray l = record {
  total : capped (l.sum + weigh subarray_weight (drop l.subarray-index l.subarray-items)) ≡ capped (list_weight subarray_weight l.items);
  fits : l.sum ≤ 2 ^ 64 - 1;
}
