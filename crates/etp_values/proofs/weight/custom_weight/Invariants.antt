use Rattle.std.proofs.Common.{◌≡◌, ◌+◌, ◌-◌, ◌^◌, ◌≤◌, drop}
use Rattle.etp_values.specs.Weight.{capped, custom_weight_of}
use Rattle.etp_values.proofs.weight.custom_weight.Given as goal

abbrev pub invariant-loop-pair : goal.invariant-loop-pair
invariant-loop-pair l = record {
  total : capped (l.sum + custom_weight_of (drop l.pair-index l.pair-items)) ≡ capped (custom_weight_of l.custom);
  fits : l.sum ≤ 2 ^ 64 - 1;
}
