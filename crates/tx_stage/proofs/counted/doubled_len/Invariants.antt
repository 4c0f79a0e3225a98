use Rattle.std.proofs.Common.{◌≡◌, ◌+◌, ◌-◌, ◌^◌, ◌≤◌, drop, length}
use Rattle.etp_values.specs.Uri.{doubled}
use Rattle.etp_values.specs.Weight.{capped}
use Rattle.tx_stage.proofs.counted.doubled_len.Given as goal

abbrev pub invariant-loop-byte : goal.invariant-loop-byte
invariant-loop-byte l = record {
  total : capped (l.sum + length (doubled (drop l.byte-index l.path))) ≡ capped (length (doubled l.path));
  fits : l.sum ≤ 2 ^ 64 - 1;
}
