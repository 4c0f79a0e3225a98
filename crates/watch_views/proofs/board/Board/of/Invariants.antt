use Rattle.std.proofs.Common.{◌≡◌, ◌++◌, map}
use Rattle.std.specs.Vec.Iter.{into_iter_items}
use Rattle.watch_views.proofs.board.Board.of.Given as goal

abbrev pub invariant-loop-view : goal.invariant-loop-view
invariant-loop-view g l = l.shelves.items ++ map (λ v. record { channel = l.channel; view = v }) (into_iter_items l.view-iterator) ≡ map (λ v. record { channel = l.channel; view = v }) l.fn.views.items
