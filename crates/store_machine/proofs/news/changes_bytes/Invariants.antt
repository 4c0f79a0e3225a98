use Rattle.std.proofs.Common.{◌≡◌, ◌+◌, ◌-◌, ◌^◌, ◌≤◌, drop}
use Rattle.channel_store.specs.Told.{change_bytes}
use Rattle.etp_values.specs.Weight.{capped, weigh}
use Rattle.store_machine.proofs.news.changes_bytes.Given as goal

abbrev pub invariant-loop-change : goal.invariant-loop-change
invariant-loop-change l = record {
  total : capped (l.sum + weigh change_bytes (drop l.change-index l.changes)) ≡ capped (weigh change_bytes l.changes);
  fits : l.sum ≤ 2 ^ 64 - 1;
}
