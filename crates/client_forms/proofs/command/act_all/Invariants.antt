use Rattle.std.proofs.Common.{ℕ, ℤ, List}
use Rattle.channel_store.specs.declared.copy.ChangeMsg.{ChangeMsg}
use Rattle.client_forms.specs.Ctl.{Course, Job, Place}
use Rattle.client_forms.specs.Jobs.{HasRead}
use Rattle.client_forms.specs.Plans.{Doing}
use Rattle.client_forms.specs.Shown.{Seen}
use Rattle.client_forms.specs.Work.{NoLess, Outside}
use Rattle.client_forms.proofs.command.act_all.Given as goal

-- whatever was being done is still being done
abbrev pub invariant-loop : goal.invariant-loop
invariant-loop g l = record {
  doing :
      (seen : List Seen) (shown : ℤ → List ChangeMsg → List ℕ) (job : Job) (f : Course → Course) (p : Place) (x : Outside)
      → Doing (g.J.Job.owes l.fn.command seen shown job l.fn.io.input.left) (g.J.Job.stands l.fn.command seen shown job l.fn.io.input.left) (HasRead job l.fn.io.input.left) f p l.fn.client l.fn.action x l.fn.io
      → Doing (g.J.Job.owes l.command seen shown job l.io.input.left) (g.J.Job.stands l.command seen shown job l.io.input.left) (HasRead job l.io.input.left) f p l.client l.action x l.io;
  less : NoLess l.fn.io l.io;
}
