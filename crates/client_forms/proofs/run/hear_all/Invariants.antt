use Rattle.std.proofs.Common.{ℕ, ℤ, List}
use Rattle.channel_store.specs.declared.copy.ChangeMsg.{ChangeMsg}
use Rattle.client_forms.specs.Ctl.{Job}
use Rattle.client_forms.specs.Runs.{Going}
use Rattle.client_forms.specs.Shown.{Seen, seen_on}
use Rattle.client_forms.specs.Work.{NoLess, Outside}
use Rattle.watch_views.specs.Boards.{reading}
use Rattle.client_forms.proofs.run.hear_all.Given as goal

-- the command still waits
abbrev pub invariant-loop : goal.invariant-loop
invariant-loop g l =
    let seen : List _ → List Seen = λ bs. seen_on (reading (λ s. s.channel) (λ s. (goal.View-dyn g (s.view.vtable, s.view.value)).held s.view.value) (λ s. (goal.View-dyn g (s.view.vtable, s.view.value)).step s.view.value) (λ s. (goal.View-dyn g (s.view.vtable, s.view.value)).shown s.view.value)) bs in
    record {
      going :
          (shown : ℤ → List ChangeMsg → List ℕ) (job : Job) (x : Outside) → Going (g.J.Job.stands l.fn.command (seen l.fn.board.shelves.items) shown job l.fn.io.input.left) shown job l.fn.client x l.fn.io
          → Going (g.J.Job.stands l.command (seen l.board.shelves.items) shown job l.io.input.left) shown job l.client x l.io;
      less : NoLess l.fn.io l.io;
    }
