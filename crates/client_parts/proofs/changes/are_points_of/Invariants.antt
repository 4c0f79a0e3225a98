use Rattle.std.proofs.Common.{◌≡◌, drop}
use Rattle.std.specs.List.{list_all}
use Rattle.client_parts.specs.Changes.{is_point_of}
use Rattle.client_parts.proofs.changes.are_points_of.Given as goal

abbrev pub invariant-loop-item : goal.invariant-loop-item
invariant-loop-item l = list_all (is_point_of l.channel) (drop l.item-index l.items) ≡ list_all (is_point_of l.channel) l.items
