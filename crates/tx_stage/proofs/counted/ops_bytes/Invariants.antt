use Rattle.std.proofs.Common.{◌≡◌, ◌+◌, ◌-◌, ◌^◌, ◌≤◌, drop}
use Rattle.etp_values.specs.Weight.{capped, weigh}
use Rattle.tx_stage.specs.Counted.{op_bytes}
use Rattle.tx_stage.proofs.counted.ops_bytes.Given as goal

abbrev pub invariant-loop-op : goal.invariant-loop-op
invariant-loop-op l = record {
  total : capped (l.sum + weigh op_bytes (drop l.op-index l.op-items)) ≡ capped (weigh op_bytes l.ops);
  fits : l.sum ≤ 2 ^ 64 - 1;
}
