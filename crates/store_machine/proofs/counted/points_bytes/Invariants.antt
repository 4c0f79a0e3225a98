use Rattle.std.proofs.Common.{◌≡◌, ◌+◌, ◌-◌, ◌^◌, ◌≤◌, drop}
use Rattle.channel_points.specs.Handles.{item_bytes}
use Rattle.etp_values.specs.Weight.{capped, weigh}
use Rattle.store_machine.proofs.counted.points_bytes.Given as goal

abbrev pub invariant-loop-item : goal.invariant-loop-item
invariant-loop-item l = record {
  total : capped (l.sum + weigh item_bytes (drop l.item-index l.item-items)) ≡ capped (weigh item_bytes l.items);
  fits : l.sum ≤ 2 ^ 64 - 1;
}
