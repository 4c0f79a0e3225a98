use Rattle.std.proofs.Common.{◌≡◌, ◌+◌, ◌-◌, ◌^◌, ◌≤◌, drop}
use Rattle.etp_values.specs.Weight.{capped, weigh, bytes_weight}
use Rattle.array_store.proofs.elements.text_bytes.Given as goal

abbrev pub invariant-loop-text : goal.invariant-loop-text
invariant-loop-text l = record {
  total : capped (l.sum + weigh bytes_weight (drop l.text-index l.texts)) ≡ capped (weigh bytes_weight l.texts);
  fits : l.sum ≤ 2 ^ 64 - 1;
}
