use Rattle.std.proofs.Common.{◌≡◌, ◌+◌, ◌-◌, ◌^◌, ◌≤◌, drop}
use Rattle.etp_values.specs.Weight.{capped, weigh}
use Rattle.store_machine.specs.Counted.{put_bytes}
use Rattle.store_machine.proofs.counted.puts_bytes.Given as goal

abbrev pub invariant-loop-put : goal.invariant-loop-put
invariant-loop-put l = record {
  total : capped (l.sum + weigh put_bytes (drop l.put-index l.put-items)) ≡ capped (weigh put_bytes l.puts);
  fits : l.sum ≤ 2 ^ 64 - 1;
}
