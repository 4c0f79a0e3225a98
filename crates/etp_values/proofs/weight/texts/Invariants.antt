use Rattle.std.proofs.Common.{◌≡◌, ◌+◌, ◌-◌, ◌^◌, ◌≤◌, drop}
use Rattle.etp_values.specs.Weight.{capped, weigh, bytes_weight, list_weight}
use Rattle.etp_values.proofs.weight.texts.Given as goal

abbrev pub invariant-loop-text : goal.invariant-loop-text
invariant-loop-text l = record {
  total : capped (l.sum + weigh bytes_weight (drop l.text-index l.text-items)) ≡ capped (list_weight bytes_weight l.items);
  fits : l.sum ≤ 2 ^ 64 - 1;
}
