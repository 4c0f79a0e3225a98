use Rattle.std.proofs.Common.{◌≡◌}
use Rattle.std.specs.Vec.Iter.{into_iter_items}
use Rattle.etp_frame.specs.Grouped.{capped, leads}
use Rattle.etp_frame.specs.Grouping.{total, groups}
use Rattle.etp_frame.proofs.grouping.in_groups.Given as goal

abbrev pub invariant-loop-item : goal.invariant-loop-item
invariant-loop-item g l = record {
  measure : l.grouped.measure ≡ capped (total g.M.Measuring.amount l.grouped.held.items);
  leads : leads g.M.Measuring.amount l.limit l.grouped.closed.items l.grouped.held.items (into_iter_items l.item-iterator) ≡ groups g.M.Measuring.amount l.limit l.fn.items.items;
}
