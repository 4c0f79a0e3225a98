use Rattle.std.proofs.Common.{◌≡◌, ◌≤◌, drop}
use Rattle.etp_schema.specs.Measure.{most, adds}
use Rattle.etp_frame.specs.Grouped.{capped}
use Rattle.etp_frame.specs.Grouping.{total}
use Rattle.etp_frame.proofs.grouping.total.Given as goal

abbrev pub invariant-loop-item : goal.invariant-loop-item
invariant-loop-item g l = record {
  rest : adds l.sum (capped (total g.M.Measuring.amount (drop l.item-index l.items))) ≡ capped (total g.M.Measuring.amount l.items);
  bytes : l.sum.bytes ≤ most;
  nodes : l.sum.nodes ≤ most;
}
