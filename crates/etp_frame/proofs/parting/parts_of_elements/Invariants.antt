use Rattle.std.proofs.Common.{◌≡◌, ◌++◌, map}
use Rattle.std.specs.Vec.Iter.{into_iter_items}
use Rattle.etp_frame.specs.Grouping.{item_amount, groups}
use Rattle.etp_frame.proofs.parting.parts_of_elements.Given as goal

abbrev pub invariant-loop-group : goal.invariant-loop-group
invariant-loop-group g l = l.parts.items ++ map (g.W.WithElements.whole l.rest) (into_iter_items l.group-iterator) ≡ map (g.W.WithElements.whole l.rest) (groups (item_amount g.T.Typed.form) l.limit l.fn.elements)
