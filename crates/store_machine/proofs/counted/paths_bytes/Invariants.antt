use Rattle.std.proofs.Common.{◌≡◌, ◌+◌, ◌-◌, ◌^◌, ◌≤◌, drop}
use Rattle.etp_values.specs.Weight.{capped, weigh}
use Rattle.store_machine.specs.Counted.{drop_bytes}
use Rattle.store_machine.proofs.counted.paths_bytes.Given as goal

abbrev pub invariant-loop-path : goal.invariant-loop-path
invariant-loop-path l = record {
  total : capped (l.sum + weigh drop_bytes (drop l.path-index l.path-items)) ≡ capped (weigh drop_bytes l.paths);
  fits : l.sum ≤ 2 ^ 64 - 1;
}
