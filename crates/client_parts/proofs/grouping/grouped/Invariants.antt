-- With the points that are left, each channel has all of its own.
use Rattle.std.proofs.Common.{◌≡◌, ◌++◌, ℤ, option_map}
use Rattle.std.specs.BTreeMap.{get}
use Rattle.std.specs.List.{list_all}
use Rattle.std.specs.Ordering.{int_cmp}
use Rattle.std.specs.Vec.Iter.{into_iter_items}
use Rattle.client_parts.specs.Changes.{is_listed, of_channel}
use Rattle.client_parts.specs.Grouping.{group}
use Rattle.client_parts.proofs.grouping.grouped.Given as goal

abbrev pub invariant-loop-point : goal.invariant-loop-point
invariant-loop-point l = record {
  all : list_all (is_listed l.channels) (into_iter_items l.point-iterator) ≡ list_all (is_listed l.channels) l.fn.points;
  points : (q : ℤ) → option_map (λ ps. ps ++ of_channel q (into_iter_items l.point-iterator)) (get int_cmp l.held q) ≡ group l.channels l.fn.points q;
}
