use Rattle.std.proofs.Common.{◌≡◌, ◌++◌, drop}
use Rattle.std.specs.Io.{StartsWith}
use Rattle.watch_views.specs.Boards.{reading, lines_of}
use Rattle.watch_views.proofs.board.print_all.Given as goal

abbrev pub invariant-loop-shelf : goal.invariant-loop-shelf
invariant-loop-shelf g l = record {
  written : l.into.items ++ lines_of (reading (λ s. s.channel) (λ s. (goal.View-dyn g (s.view.vtable, s.view.value)).held s.view.value) (λ s. (goal.View-dyn g (s.view.vtable, s.view.value)).step s.view.value) (λ s. (goal.View-dyn g (s.view.vtable, s.view.value)).shown s.view.value)) (drop l.shelf-index l.shelves) ≡ l.fn.into.items ++ lines_of (reading (λ s. s.channel) (λ s. (goal.View-dyn g (s.view.vtable, s.view.value)).held s.view.value) (λ s. (goal.View-dyn g (s.view.vtable, s.view.value)).step s.view.value) (λ s. (goal.View-dyn g (s.view.vtable, s.view.value)).shown s.view.value)) l.shelves;
  kept : StartsWith l.into.items l.fn.into.items;
}
