use Rattle.watch_views.specs.Boards.{reading}
use Rattle.watch_views.proofs.BoardLemmas.{IsFedTo}
use Rattle.watch_views.proofs.board.feed_all.Given as goal

abbrev pub invariant-loop-i : goal.invariant-loop-i
invariant-loop-i g l = IsFedTo (reading (λ s. s.channel) (λ s. (goal.View-dyn g (s.view.vtable, s.view.value)).held s.view.value) (λ s. (goal.View-dyn g (s.view.vtable, s.view.value)).step s.view.value) (λ s. (goal.View-dyn g (s.view.vtable, s.view.value)).shown s.view.value)) l.i l.change l.fn.shelves.items l.shelves.items
