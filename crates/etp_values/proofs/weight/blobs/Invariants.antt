use Rattle.std.proofs.Common.{◌≡◌, ◌+◌, ◌-◌, ◌^◌, ◌≤◌, drop}
use Rattle.etp_values.specs.Weight.{capped, weigh, bytes_weight, list_weight}
use Rattle.etp_values.proofs.weight.blobs.Given as goal

abbrev pub invariant-loop-blob : goal.invariant-loop-blob
invariant-loop-blob l = record {
  total : capped (l.sum + weigh bytes_weight (drop l.blob-index l.blob-items)) ≡ capped (list_weight bytes_weight l.items);
  fits : l.sum ≤ 2 ^ 64 - 1;
}
