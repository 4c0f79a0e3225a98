use Rattle.std.proofs.Common.{◌≡◌, ◌+◌, ◌-◌, ◌^◌, ◌≤◌, drop}
use Rattle.etp_values.specs.Weight.{capped, weigh}
use Rattle.tx_stage.specs.Counted.{touch_bytes}
use Rattle.tx_stage.proofs.counted.touched_bytes.Given as goal

abbrev pub invariant-loop-touch : goal.invariant-loop-touch
invariant-loop-touch l = record {
  total : capped (l.sum + weigh touch_bytes (drop l.touch-index l.touch-items)) ≡ capped (weigh touch_bytes l.touched);
  fits : l.sum ≤ 2 ^ 64 - 1;
}
