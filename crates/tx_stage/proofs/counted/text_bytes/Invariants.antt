use Rattle.std.proofs.Common.{◌≡◌, ◌+◌, ◌-◌, ◌^◌, ◌≤◌, drop}
use Rattle.etp_values.specs.Weight.{capped, weigh}
use Rattle.tx_stage.specs.Counted.{text_len}
use Rattle.tx_stage.proofs.counted.text_bytes.Given as goal

abbrev pub invariant-loop-text : goal.invariant-loop-text
invariant-loop-text l = record {
  total : capped (l.sum + weigh text_len (drop l.text-index l.text-items)) ≡ capped (weigh text_len l.texts);
  fits : l.sum ≤ 2 ^ 64 - 1;
}
