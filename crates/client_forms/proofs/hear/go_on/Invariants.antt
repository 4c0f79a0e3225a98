use Rattle.std.proofs.Common.{ℕ, ℤ, List, take}
use Rattle.channel_store.specs.declared.copy.ChangeMsg.{ChangeMsg}
use Rattle.client_forms.specs.Ctl.{Job, Stage}
use Rattle.client_forms.specs.Shown.{Seen, seen_on}
use Rattle.client_forms.specs.Work.{Comes, NoLess, place}
use Rattle.watch_views.specs.Boards.{reading}
use Rattle.client_forms.proofs.HearingLemmas.{all_of}
use Rattle.client_forms.proofs.hear.go_on.Given as goal

-- the answers so far were gone through
abbrev pub invariant-loop-got : goal.invariant-loop-got
invariant-loop-got g l =
    let seen : List _ → List Seen = λ bs. seen_on (reading (λ s. s.channel) (λ s. (goal.View-dyn g (s.view.vtable, s.view.value)).held s.view.value) (λ s. (goal.View-dyn g (s.view.vtable, s.view.value)).step s.view.value) (λ s. (goal.View-dyn g (s.view.vtable, s.view.value)).shown s.view.value)) bs in
    record {
      gone :
          (shown : ℤ → List ChangeMsg → List ℕ) (job : Job) (stage : Stage) → g.J.Job.stands l.fn.command (seen l.fn.board.shelves.items) shown job l.fn.io.input.left stage
          → Comes (g.J.Job.stands l.command (seen l.board.shelves.items) shown job l.io.input.left) (all_of shown job (take l.got-index l.gots)) (place l.fn.client stage) l.client l.fn.io l.io;
      less : NoLess l.fn.io l.io;
    }
